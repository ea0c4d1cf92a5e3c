use Rattle.std.proofs.Common.{take}
use Rattle.std.specs.List.{All}
use Rattle.dd_blocks.specs.OfPlan.{HasBlocks}
use Rattle.tests_of_tasks.proofs.placements.have_blocks.Given as goal

abbrev pub invariant-loop-array : goal.invariant-loop-array
invariant-loop-array l = All (HasBlocks l.plan) (take l.array-index l.arrays)
