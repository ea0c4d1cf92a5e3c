-- What is done below the place is the front of the whole column.
use Rattle.std.proofs.Common.{◌≡◌, take}
use Rattle.dd_kernels.specs.Lists.{tabulate}
use Rattle.dd_kernels.specs.Matrices.{cross}
use Rattle.dd_kernels.proofs.stencil.fill_edge.Given as goal

abbrev pub invariant-loop-i : goal.invariant-loop-i
invariant-loop-i l = take l.i l.out ≡ tabulate l.i (cross l.left l.here l.right)
