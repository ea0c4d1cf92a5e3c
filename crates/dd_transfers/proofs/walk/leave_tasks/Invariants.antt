use Rattle.std.proofs.Common.{take}
use Rattle.std.specs.List.{flat_map}
use Rattle.dd_transfers.specs.declared.mark.Visit.TheVariants.{Leave}
use Rattle.dd_transfers.specs.Visits.{Visited, visits_by}
use Rattle.dd_transfers.proofs.walk.leave_tasks.Given as goal

abbrev pub invariant-loop-task : goal.invariant-loop-task
invariant-loop-task l = Visited (flat_map (visits_by l.plan l.homes Leave) (take l.task-index l.tasks)) l.fn.marks l.marks l.moved
