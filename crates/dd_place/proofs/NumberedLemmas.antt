-- The row of a number by its place in the list.
use Rattle.std.proofs.Common.{◌≡◌, ℕ, zero, suc, ◌-◌, ◌+◌, ◌≤◌, List, get_or, refl, ap, arith}
use Rattle.dd_blocks.specs.Numbered.{numbered}

pub numbered_at : {Row : Type 0} (none : Row) (rows : List Row) (n : ℕ) → 1 ≤ n → numbered none rows n ≡ get_or rows (n - 1) none
numbered_at none rows zero some = absurd (omega arith)
numbered_at none rows (suc n) some = ap (λ (i : ℕ). get_or rows i none) (omega arith)

pub numbered_next : {Row : Type 0} (none : Row) (rows : List Row) (n : ℕ) → numbered none rows (n + 1) ≡ get_or rows n none
numbered_next none rows n = let e : n + 1 ≡ suc n = omega arith in rw e refl
