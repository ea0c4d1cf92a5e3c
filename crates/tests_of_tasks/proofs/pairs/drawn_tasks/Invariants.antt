-- All tasks so far use views of such arrays.
use Rattle.std.proofs.Common.{ℕ}
use Rattle.std.specs.List.{All}
use Rattle.dd_blocks.specs.declared.task_row.TaskRow.{TaskRow}
use Rattle.dd_alias.specs.Shapes.{AreViewsBy}
use Rattle.tests_of_tasks.proofs.pairs.drawn_tasks.Given as goal

abbrev pub invariant-loop : goal.invariant-loop
invariant-loop l = All (λ (t : TaskRow). AreViewsBy (λ (n : ℕ). record { rows = 12; cols = 12 }) t.accesses) l.tasks.items
