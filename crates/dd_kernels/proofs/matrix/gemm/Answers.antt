use Rattle.std.proofs.Common.{◌≡◌, ◌+◌, ◌*◌, ◌≤◌, ℕ, ℤ, ◌+ℤ◌, ◌*ℤ◌, length, arith}
use Rattle.std.specs.List.{between}
use Rattle.std.proofs.lemmas.List.Edits.{length-between}
use Rattle.std.proofs.lemmas.Nat.{row_fits_turned}
use Rattle.dd_kernels.specs.Lists.{wrapped, element, sum_below}
use Rattle.dd_kernels.proofs.MatricesLemmas.{column_more, past_column, product_column, element_part, element_part_ahead}
use Rattle.dd_kernels.proofs.matrix.gemm.Goals as goal

pub loop-j-preserved : goal.loop-j-preserved
loop-j-preserved c =
    let old = c.args.c.now in
    let a = c.args.a.now in
    let b = c.args.b.now in
    let j : ℕ = c.loop-j.j in
    let m : ℕ = c.args.shape.rows in
    let p : ℕ = c.args.shape.cols in
    let within : j * m + m ≤ length c.loop-j.c = omega (arith, row_fits_turned j m m c.args.cols c.loop-j-test.true (omega arith)) in
    let within_b : j * p + p ≤ length b = omega (arith, row_fits_turned j p p c.args.cols c.loop-j-test.true (omega arith)) in
    let long : length (between (j * m) (j * m + m) c.loop-j.c) ≡ m = omega (arith, length-between c.loop-j.c (j * m) (j * m + m) within) in
    let long_b : length (between (j * p) (j * p + p) b) ≡ p = omega (arith, length-between b (j * p) (j * p + p) within_b) in
    let f : ℕ → ℕ → ℤ = λ i j. wrapped (element old (j * m + i) +ℤ sum_below p (λ q. element a (q * m + i) *ℤ element b (j * p + q))) in
    let column = product_column old a b (between (j * m) (j * m + m) c.loop-j.c) (between (j * p) (j * p + p) b) c.gemv.new.y m p j long long_b (λ i below. element_part_ahead c.loop-j.c old (j * m) (j * m + m) i c.loop-j.invariant.1 (omega arith)) (λ q below. element_part b (j * p) (j * p + p) q (omega arith)) c.gemv.ensures in
    (column_more f m j _ c.loop-j.c _ within (omega arith) column c.loop-j.invariant.0, past_column (λ i. f i j) m j _ c.loop-j.c _ old within (omega arith) column c.loop-j.invariant.1)
