use Rattle.std.proofs.Common.{◌≡◌, ◌+◌, ◌*◌, ◌<◌, ◌≤◌, ℕ, ◌+ℤ◌, ◌*ℤ◌, length, ap, sym, ◌∙◌, rules, arith}
use Rattle.std.specs.Int.{w64, cast_signed, cast_unsigned}
use Rattle.std.proofs.lemmas.Int.{to_z-of_z}
use Rattle.dd_kernels.specs.Lists.{wrapped, element, tabulate, sum_below}
use Rattle.std.specs.List.{between}
use Rattle.std.proofs.lemmas.Bool.Decides.{nat_tests}
use Rattle.std.proofs.lemmas.List.Edits.{length-between}
use Rattle.std.proofs.lemmas.Nat.{row_fits_turned}
use Rattle.dd_kernels.proofs.MatricesLemmas.{column_product_more, element_part, nothing_added}
use Rattle.dd_kernels.proofs.matrix.gemv.Goals as goal

pub loop-q-preserved : goal.loop-q-preserved
loop-q-preserved c =
    let n : ℕ = length c.args.y.now in
    let from : ℕ = c.loop-q.q * n in
    let within : from + n ≤ length c.args.a.now = omega (arith, row_fits_turned c.loop-q.q n n (length c.args.x.now) c.loop-q-test.true (omega arith)) in
    let column = between from (from + n) c.args.a.now in
    let long : length column ≡ n = omega (arith, length-between c.args.a.now from (from + n) within) in
    let more = column_product_more c.args.y.now c.args.a.now c.args.x.now c.loop-q.y column n c.loop-q.q (cast_signed w64 (cast_unsigned w64 (element c.args.x.now c.loop-q.q))) (omega arith) long (to_z-of_z w64 (element c.args.x.now c.loop-q.q) (search rules)) (λ i below. element_part c.args.a.now from (from + n) i (omega arith)) c.loop-q.invariant.0 c.loop-q.invariant.1 in
    (λ _. c.axpy.ensures ∙ more, λ none. absurd (omega arith))

pub returns-then-is_empty : goal.returns-then-is_empty
returns-then-is_empty c =
    let none : length c.args.x.now ≡ 0 = grind (arith, nat_tests) in
    c.addk.ensures ∙ (nothing_added c.args.y.now ∙ ap (λ (p : ℕ). tabulate (length c.args.y.now) (λ i. wrapped (element c.args.y.now i +ℤ sum_below p (λ q. element c.args.a.now (q * length c.args.y.now + i) *ℤ element c.args.x.now q)))) (sym none))

pub returns : goal.returns
returns c =
    let whole : c.loop-q.q ≡ length c.args.x.now = omega arith in
    let some : 0 < c.loop-q.q = grind (arith, nat_tests) in
    rw whole at (c.loop-q.invariant.0 some)
