use Rattle.std.proofs.Common.{◌≡◌, drop}
use Rattle.std.specs.List.{list_all}
use Rattle.dd_machine.specs.Tests.{is_done}
use Rattle.dd_tables.specs.Tables.{tasks_of}
use Rattle.dd_legal.proofs.holding.are_done.Given as goal

abbrev pub invariant-loop-task : goal.invariant-loop-task
invariant-loop-task l = list_all (λ t. is_done (tasks_of l.tables.tasks.items t)) (drop l.task-index l.tasks) ≡ list_all (λ t. is_done (tasks_of l.tables.tasks.items t)) l.tasks
