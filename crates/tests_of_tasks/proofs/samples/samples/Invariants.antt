-- All tasks so far use views of such columns.
use Rattle.std.proofs.Common.{ℕ}
use Rattle.std.specs.List.{All}
use Rattle.dd_blocks.specs.declared.task_row.TaskRow.{TaskRow}
use Rattle.dd_alias.specs.Shapes.{AreViewsBy}
use Rattle.tests_of_tasks.proofs.samples.samples.Given as goal

abbrev pub invariant-loop-accesses : goal.invariant-loop-accesses
invariant-loop-accesses l = All (λ (t : TaskRow). AreViewsBy (λ (n : ℕ). record { rows = 16; cols = 1 }) t.accesses) l.rows.items
