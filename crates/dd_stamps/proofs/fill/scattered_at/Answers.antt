use Rattle.std.proofs.Common.{ℕ, ◌+◌, ◌*◌, ◌^◌, ◌%◌, ◌/◌, ◌<◌, pos, ap, ◌∙◌, rules, arith}
use Rattle.std.specs.Int.{w64, cast_unsigned}
use Rattle.std.proofs.lemmas.Int.{to_z-of_z, to_z_pos}
use Rattle.std.proofs.lemmas.Nat.{mod_below}
use Rattle.dd_meaning.proofs.FillLemmas.{lcg_bits}
use Rattle.dd_stamps.proofs.fill.scattered_at.Goals as goal

pub returns : goal.returns
returns c =
    let bits : ℕ → ℕ = λ from. ((from + (c.args.p + 1)) % 2 ^ 64 * 6364136223846793005 % 2 ^ 64 + 1442695040888963407) % 2 ^ 64 in
    let from = c.cast_unsigned.ensures ∙ ap (cast_unsigned w64) (to_z-of_z w64 c.args.seed (search rules)) in
    let below : bits c.cast_unsigned.result < 2 ^ 64 = mod_below _ (2 ^ 64) (omega arith) in
    let same = ap bits from ∙ lcg_bits c.args.seed (c.args.p + 1) 6364136223846793005 1442695040888963407 (search rules) (omega (arith, c.requires)) (omega arith) (omega arith) in
    to_z_pos w64 (bits c.cast_unsigned.result / 2 ^ 33) (omega arith) ∙ ap (λ (n : ℕ). pos (n / 2 ^ 33)) same
