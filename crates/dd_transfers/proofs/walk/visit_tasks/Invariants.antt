use Rattle.std.proofs.Common.{take}
use Rattle.std.specs.List.{flat_map}
use Rattle.dd_transfers.specs.Visits.{Visited, task_visits}
use Rattle.dd_transfers.proofs.walk.visit_tasks.Given as goal

abbrev pub invariant-loop-task : goal.invariant-loop-task
invariant-loop-task l = Visited (flat_map (task_visits l.plan l.homes) (take l.task-index l.tasks)) l.fn.marks l.marks l.moved
