use Rattle.std.proofs.Common.{◌≡◌, ◌+◌, ◌*◌, ◌≤◌, ℕ, ℤ, length, ap, ◌∙◌, arith}
use Rattle.std.specs.List.{between}
use Rattle.std.proofs.lemmas.List.Edits.{length-between}
use Rattle.std.proofs.lemmas.Nat.{row_fits_turned}
use Rattle.dd_kernels.specs.Lists.{tabulate}
use Rattle.dd_kernels.specs.Matrices.{bordered, cross, weighed}
use Rattle.dd_kernels.proofs.MatricesLemmas.{column_more, tabulate_same}
use Rattle.dd_kernels.proofs.StencilLemmas.{cross_is}
use Rattle.dd_kernels.proofs.stencil.stencil5.Goals as goal

pub loop-j-preserved : goal.loop-j-preserved
loop-j-preserved c =
    let s = c.args.shape in
    let y = c.args.y.now in
    let j : ℕ = c.loop-j.j in
    let m : ℕ = c.args.shape.rows in
    let left = c.column_of-left.result.now in
    let here = c.column_of-here.result.now in
    let right = c.column_of-right.result.now in
    let within : j * m + m ≤ length c.loop-j.x = omega (arith, row_fits_turned j m m c.args.shape.cols c.loop-j-test.true (omega arith)) in
    let long : length (between (j * m) (j * m + m) c.loop-j.x) ≡ m = omega (arith, length-between c.loop-j.x (j * m) (j * m + m) within) in
    let f : ℕ → ℕ → ℤ = λ i j. weighed (bordered s y i (j + 1)) (bordered s y (i + 2) (j + 1)) (bordered s y (i + 1) j) (bordered s y (i + 1) (j + 2)) (bordered s y (i + 1) (j + 1)) in
    let column = c.fill_column.ensures ∙ (ap (λ (n : ℕ). tabulate n (cross left here right)) long ∙ tabulate_same m (cross left here right) (λ i. f i j) (λ i below. cross_is s y left here right i j c.column_of-left.ensures.elements c.column_of-here.ensures.elements c.column_of-right.ensures.elements)) in
    column_more f m j _ c.loop-j.x _ within (omega arith) column c.loop-j.invariant
