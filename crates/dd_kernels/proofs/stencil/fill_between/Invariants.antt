-- What is done below the place is the front of the whole part.
use Rattle.std.proofs.Common.{◌≡◌, take}
use Rattle.dd_kernels.specs.Lists.{element, tabulate}
use Rattle.dd_kernels.specs.Matrices.{weighed}
use Rattle.dd_kernels.proofs.stencil.fill_between.Given as goal

abbrev pub invariant-loop-i : goal.invariant-loop-i
invariant-loop-i l =
    take l.i l.out ≡ tabulate l.i (λ i. weighed (element l.above i) (element l.below i) (element l.left i) (element l.right i) (element l.here i))
