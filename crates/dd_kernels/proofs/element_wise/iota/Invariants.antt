-- What is done below the block is the front of the whole result.
use Rattle.std.proofs.Common.{◌≡◌, ◌*◌, pos, ◌+ℤ◌, take}
use Rattle.dd_kernels.specs.Lists.{wrapped, tabulate}
use Rattle.dd_kernels.proofs.element_wise.iota.Given as goal

abbrev pub invariant-loop-b : goal.invariant-loop-b
invariant-loop-b l = take (32 * l.b) l.x ≡ tabulate (32 * l.b) (λ i. wrapped (l.k +ℤ pos i))
