-- What is done below the place is the front of the whole result.
use Rattle.std.proofs.Common.{◌≡◌, pos, ◌+ℤ◌, take}
use Rattle.dd_kernels.specs.Lists.{wrapped, tabulate}
use Rattle.dd_kernels.proofs.element_wise.count_on.Given as goal

abbrev pub invariant-loop-i : goal.invariant-loop-i
invariant-loop-i l = take l.i l.x ≡ tabulate l.i (λ i. wrapped (l.k +ℤ pos i))
