-- Cells of different spaces or blocks are different.
use Rattle.std.proofs.Common.{◌≡◌, ℕ, ◌+◌, ◌-◌, ◌*◌, ◌<◌, ◌≤◌, inl, inr, length, arith, ap, sym}
use Rattle.std.proofs.Math.Nat.{mul-le-mul_right}
use Rattle.std.proofs.lemmas.Bool.Decides.{leb_tells}
use Rattle.dd_blocks.specs.declared.plan.Plan.{Plan}
use Rattle.dd_pool.specs.Places.{IsPlace, cell_count, place_of}

not_less : (w a b c d : ℕ) → c < w → a * w + c ≡ b * w + d → a < b → ⊥
not_less w a b c d small e lt =
    let more : (a + 1) * w ≤ b * w = mul-le-mul_right w (let h : a + 1 ≤ b = omega arith in h) in
    let one : (a + 1) * w ≡ a * w + w = omega arith in
    absurd (omega (arith, more, one, e, small))

same_row : (w a b c d : ℕ) → c < w → d < w → a * w + c ≡ b * w + d → a ≡ b
same_row w a b c d cw dw e = elim (leb_tells a b) [
  | inl h ↦ elim (leb_tells b a) [ inl k ↦ omega (arith, h.1, k.1) | inr k ↦ absurd (not_less w a b c d cw e k.1) ]
  | inr h ↦ absurd (not_less w b a d c dw (sym e) h.1)
]

pub same_place : (plan : Plan) (s b t c : ℕ) → IsPlace plan s b → IsPlace plan t c → place_of plan s b ≡ place_of plan t c → (s ≡ t) × (b ≡ c)
same_place plan s b t c one two e =
    let row : s - 1 ≡ t - 1 = same_row (length plan.blocks) (s - 1) (t - 1) (b - 1) (c - 1) (omega (arith, one.a_block)) (omega (arith, two.a_block)) e in
    let rows = ap (λ (n : ℕ). n * length plan.blocks) row in
    (omega (arith, row, one.a_space, two.a_space), omega (arith, e, rows, one.a_block, two.a_block))

pub place_within : (plan : Plan) (s b : ℕ) → IsPlace plan s b → place_of plan s b < cell_count plan
place_within plan s b one =
    let more : (s - 1 + 1) * length plan.blocks ≤ length plan.spaces * length plan.blocks = mul-le-mul_right (length plan.blocks) (let h : s - 1 + 1 ≤ length plan.spaces = omega (arith, one.a_space) in h) in
    let split : (s - 1 + 1) * length plan.blocks ≡ (s - 1) * length plan.blocks + length plan.blocks = omega arith in
    omega (arith, more, split, one.a_block)
