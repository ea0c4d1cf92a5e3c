use Rattle.std.proofs.Common.{◌≡◌, ℕ, ◌+◌, ◌-◌, ◌*◌, ◌/◌, length, ap, ◌∙◌, rules, arith}
use Rattle.std.specs.Int.{w64}
use Rattle.std.specs.List.{between}
use Rattle.std.proofs.lemmas.Int.{to_z-of_z}
use Rattle.std.proofs.lemmas.List.Edits.{length-between}
use Rattle.dd_kernels.specs.Lists.{wrapped, element, sum_below}
use Rattle.dd_kernels.proofs.BlocksLemmas.{sum_part_more}
use Rattle.dd_kernels.proofs.MatricesLemmas.{element_part}
use Rattle.dd_kernels.proofs.total.sum_of.Goals as goal

pub loop-k-preserved : goal.loop-k-preserved
loop-k-preserved c =
    let y = c.args.y.now in
    let n : ℕ = 32 * c.loop-k.k in
    let long = length-between y n (n + 32) (omega arith) in
    let next : n + 32 ≡ 32 * (c.loop-k.k + 1) = omega arith in
    to_z-of_z w64 c.add_all-sum.result (search rules) ∙ (sum_part_more y (between n (n + 32) y) n 32 _ _ (omega (arith, long)) (λ i below. element_part y n (n + 32) i (omega arith)) c.loop-k.invariant c.add_all-sum.ensures ∙ ap (λ (m : ℕ). wrapped (sum_below m (element y))) next)

pub returns : goal.returns
returns c =
    let y = c.args.y.now in
    let end : ℕ = length c.args.y.now in
    let n : ℕ = 32 * (length c.args.y.now / 32) in
    let long = length-between y n end (omega arith) in
    let done : 32 * c.loop-k.k ≡ n = omega arith in
    let whole : n + (end - n) ≡ end = omega arith in
    let before = c.loop-k.invariant ∙ ap (λ (m : ℕ). wrapped (sum_below m (element y))) done in
    to_z-of_z w64 c.add_all.result (search rules) ∙ (sum_part_more y (between n end y) n (end - n) _ _ long (λ i below. element_part y n end i (omega arith)) before c.add_all.ensures ∙ ap (λ (m : ℕ). wrapped (sum_below m (element y))) whole)
