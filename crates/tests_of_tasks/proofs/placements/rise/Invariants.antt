use Rattle.std.proofs.Common.{take}
use Rattle.tests_of_tasks.proofs.RisingLemmas.{RiseTo}
use Rattle.tests_of_tasks.proofs.placements.rise.Given as goal

abbrev pub invariant-loop-row : goal.invariant-loop-row
invariant-loop-row l = RiseTo l.last (take l.row-index l.rows)
