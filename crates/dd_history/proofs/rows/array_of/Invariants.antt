-- The arrays so far begin behind the element, so it stands before their end.
use Rattle.std.proofs.Common.{◌≤◌, ◌<◌, length, take}
use Rattle.dd_blocks.specs.Layout.{elements_in}
use Rattle.dd_history.proofs.rows.array_of.Given as goal

abbrev pub invariant-loop-array : goal.invariant-loop-array
invariant-loop-array l = (l.array ≤ length l.plan.arrays) × (l.element < elements_in (take l.array l.plan.arrays))

abbrev pub decreases-loop-array : goal.decreases-loop-array
decreases-loop-array l = l.array
