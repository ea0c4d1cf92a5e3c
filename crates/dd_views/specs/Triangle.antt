-- Columns of 1, 2, 3 and so on elements.
use Rattle.std.specs.Prelude.{ℕ, zero, suc, ◌+◌}

-- 1 + 2 + .. + n
abbrev pub triangle : ℕ → ℕ
triangle zero = 0
triangle (suc n) = triangle n + suc n
