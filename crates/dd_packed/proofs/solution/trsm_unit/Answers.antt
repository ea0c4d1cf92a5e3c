use Rattle.std.proofs.Common.{◌≡◌, ◌+◌, ◌*◌, ◌≤◌, ℕ, ℤ, length, arith}
use Rattle.std.specs.List.{between}
use Rattle.std.proofs.lemmas.List.Edits.{length-between}
use Rattle.std.proofs.lemmas.Nat.{row_fits_turned}
use Rattle.dd_kernels.specs.Lists.{element}
use Rattle.dd_kernels.specs.Matrices.{entry}
use Rattle.dd_kernels.specs.Packed.{packed, strictly_lower_pairs, solved}
use Rattle.dd_kernels.proofs.MatricesLemmas.{column_more, past_column, element_part_ahead}
use Rattle.dd_packed.proofs.SolutionLemmas.{solution_column}
use Rattle.dd_packed.proofs.solution.trsm_unit.Goals as goal

pub loop-j-preserved : goal.loop-j-preserved
loop-j-preserved c =
    let s = c.args.shape in
    let old = c.args.x.now in
    let p = c.args.p.now in
    let j : ℕ = c.loop-j.j in
    let m : ℕ = c.args.shape.rows in
    let within : j * m + m ≤ length c.loop-j.x = omega (arith, row_fits_turned j m m c.args.shape.cols c.loop-j-test.true (omega arith)) in
    let long : length (between (j * m) (j * m + m) c.loop-j.x) ≡ m = omega (arith, length-between c.loop-j.x (j * m) (j * m + m) within) in
    let f : ℕ → ℕ → ℤ = λ i j. element (solved (packed (strictly_lower_pairs m) p) (λ r. entry s old r j) m) i in
    let column = solution_column p (between (j * m) (j * m + m) c.loop-j.x) c.trsv_unit.new.x (λ r. entry s old r j) m long (λ i below. element_part_ahead c.loop-j.x old (j * m) (j * m + m) i c.loop-j.invariant.rest (omega arith)) c.trsv_unit.ensures in
    record {
      front = column_more f m j _ c.loop-j.x _ within (omega arith) column c.loop-j.invariant.front;
      rest = past_column (λ i. f i j) m j _ c.loop-j.x _ old within (omega arith) column c.loop-j.invariant.rest;
    }
