use Rattle.std.proofs.Common.{◌≡◌, ◌+◌, ◌*◌, ◌<◌, ◌≤◌, ℕ, ℤ, ◌+ℤ◌, ◌*ℤ◌, length, ap, sym, ◌∙◌, rules, arith}
use Rattle.std.specs.Int.{w64, cast_signed, cast_unsigned}
use Rattle.std.specs.Int.RustNames.{FitsSigned}
use Rattle.std.specs.List.{between}
use Rattle.std.proofs.lemmas.Bool.Decides.{nat_tests}
use Rattle.std.proofs.lemmas.Int.{to_z-of_z}
use Rattle.std.proofs.lemmas.List.Edits.{length-between}
use Rattle.std.proofs.lemmas.Nat.{row_fits_turned}
use Rattle.std.proofs.Math.IntN.{*ℤ_comm}
use Rattle.dd_kernels.specs.Lists.{wrapped, element, tabulate, sum_below}
use Rattle.dd_kernels.specs.Matrices.{entry}
use Rattle.dd_kernels.proofs.ListsLemmas.{ap2}
use Rattle.dd_kernels.proofs.MatricesLemmas.{terms_more, element_part, nothing_added}
use Rattle.dd_packed.proofs.square.add_products.Goals as goal

pub returns-then-shape-eq0 : goal.returns-then-shape-eq0
returns-then-shape-eq0 c =
    let s = c.args.shape in
    let a = c.args.a.now in
    let column = c.args.column.now in
    let none : c.args.shape.cols ≡ 0 = grind (arith, nat_tests) in
    c.addk.ensures ∙ (nothing_added column ∙ ap (λ (p : ℕ). tabulate (length column) (λ t. wrapped (element column t +ℤ sum_below p (λ q. entry s a (c.args.j + t) q *ℤ entry s a c.args.j q)))) (sym none))

pub loop-q-preserved : goal.loop-q-preserved
loop-q-preserved c =
    let s = c.args.shape in
    let a = c.args.a.now in
    let old = c.args.column.now in
    let q : ℕ = c.loop-q.q in
    let j : ℕ = c.args.j in
    let rows : ℕ = c.args.shape.rows in
    let from : ℕ = q * rows + j in
    let within : q * rows + rows ≤ length a = omega (arith, row_fits_turned q rows rows c.args.shape.cols c.loop-q-test.true (omega arith)) in
    let part = between from (q * rows + rows) a in
    let long : length part ≡ length old = omega (arith, length-between a from (q * rows + rows) within) in
    let f : ℕ → ℕ → ℤ = λ t q. entry s a (j + t) q *ℤ entry s a j q in
    let fits : FitsSigned w64 (element part 0) = search rules in
    let k : ℤ = cast_signed w64 (cast_unsigned w64 (element part 0)) in
    let factor : k ≡ entry s a j q = to_z-of_z w64 (element part 0) fits ∙ (element_part a from (q * rows + rows) 0 (omega arith) ∙ ap (element a) (omega arith)) in
    let more = terms_more old c.loop-q.column part f (length old) q k (omega arith) long (λ t below. ap2 ◌*ℤ◌ factor (element_part a from (q * rows + rows) t (omega arith) ∙ ap (element a) (omega arith)) ∙ *ℤ_comm (entry s a j q) (entry s a (j + t) q)) c.loop-q.invariant.later c.loop-q.invariant.first in
    record { later = λ _. c.axpy.ensures ∙ more; first = λ none. absurd (omega arith) }

pub returns : goal.returns
returns c =
    let whole : c.loop-q.q ≡ c.args.shape.cols = omega arith in
    let some : 0 < c.loop-q.q = grind (arith, nat_tests) in
    rw whole at (c.loop-q.invariant.later some)
