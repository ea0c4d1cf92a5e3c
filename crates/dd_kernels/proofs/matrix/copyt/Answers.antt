use Rattle.std.proofs.Common.{◌≡◌, ◌+◌, ◌*◌, ◌≤◌, ℕ, length, ap, ◌∙◌, arith}
use Rattle.std.specs.List.{between}
use Rattle.std.proofs.lemmas.Grind.{common_steps}
use Rattle.std.proofs.lemmas.List.Edits.{length-between}
use Rattle.std.proofs.lemmas.Nat.{rows}
use Rattle.dd_kernels.specs.Lists.{element, tabulate}
use Rattle.dd_kernels.proofs.MatricesLemmas.{column_more}
use Rattle.dd_kernels.proofs.matrix.copyt.Goals as goal

pub loop-j-preserved : goal.loop-j-preserved
loop-j-preserved c =
    let from : ℕ = c.loop-j.j * c.args.shape.cols in
    let within : from + c.args.shape.cols ≤ length c.loop-j.x = grind (arith, common_steps, rows) in
    let long : length (between from (from + c.args.shape.cols) c.loop-j.x) ≡ c.args.shape.cols = omega (arith, length-between c.loop-j.x from (from + c.args.shape.cols) within) in
    column_more (λ i j. element c.args.y.now (i * c.args.shape.rows + j)) c.args.shape.cols c.loop-j.j _ c.loop-j.x _ within (omega arith) (c.read_row.ensures ∙ ap (λ (n : ℕ). tabulate n (λ i. element c.args.y.now (i * c.args.shape.rows + c.loop-j.j))) long) c.loop-j.invariant
