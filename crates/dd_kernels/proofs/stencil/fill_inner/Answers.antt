use Rattle.std.proofs.Common.{◌≡◌, ◌-◌, ◌≤◌, ◌≢◌, ℕ, ℤ, List, pos, length, set, take, ap, ◌∙◌, rules, arith}
use Rattle.std.specs.Int.{w64, cast_signed, cast_unsigned}
use Rattle.std.specs.List.{between}
use Rattle.std.proofs.lemmas.Int.{to_z-of_z}
use Rattle.std.proofs.lemmas.List.{length-set, get_or-set_same, get_or-set_other}
use Rattle.std.proofs.lemmas.List.Edits.{length-between}
use Rattle.dd_kernels.specs.Lists.{element, tabulate}
use Rattle.dd_kernels.specs.Matrices.{cross, weighed}
use Rattle.dd_kernels.proofs.MatricesLemmas.{element_tabulate, length_tabulate}
use Rattle.dd_kernels.proofs.StencilLemmas.{framed, between_ends}
use Rattle.dd_kernels.proofs.stencil.fill_inner.Goals as goal

pub returns : goal.returns
returns c =
    let old = c.args.out.now in
    let left = c.args.left.now in
    let here = c.args.here.now in
    let right = c.args.right.now in
    let n : ℕ = length c.args.out.now in
    let some : 2 ≤ n = c.requires.some in
    let v = cast_signed w64 (cast_unsigned w64 c.at_place.result) in
    let w = cast_signed w64 (cast_unsigned w64 c.at_place-2.result) in
    let started = set old 0 v in
    let ended = set started (n - 1) w in
    let long_started : length started ≡ n = length-set old 0 v in
    let long_ended : length ended ≡ n = length-set started (n - 1) w ∙ long_started in
    let part = length-between ended 1 (n - 1) (omega arith) in
    let f : ℕ → ℤ = λ i. weighed (element (take (n - 1 - 1) here) i) (element (between 2 (length here) here) i) (element (between 1 (n - 1) left) i) (element (between 1 (n - 1) right) i) (element (between 1 (n - 1) here) i) in
    let new : c.fill_between.new.out ≡ tabulate (length (between 1 (n - 1) ended)) f = c.fill_between.ensures in
    let long_new = ap length new ∙ (length_tabulate (length (between 1 (n - 1) ended)) f ∙ part) in
    let apart : 0 ≢ n - 1 = omega arith in
    let first = get_or-set_other started (n - 1) 0 w (pos 0) apart ∙ (get_or-set_same old 0 v (pos 0) (omega arith) ∙ (to_z-of_z w64 c.at_place.result (search rules) ∙ c.at_place.ensures)) in
    let last = get_or-set_same started (n - 1) w (pos 0) (omega arith) ∙ (to_z-of_z w64 c.at_place-2.result (search rules) ∙ c.at_place-2.ensures) in
    framed ended c.fill_between.new.out n (cross left here right) some long_ended long_new first last
    (λ i below. ap (λ (l : List ℤ). element l i) new ∙ (element_tabulate (length (between 1 (n - 1) ended)) f i (omega (arith, part)) ∙ between_ends left here right n i c.requires.middle below))
