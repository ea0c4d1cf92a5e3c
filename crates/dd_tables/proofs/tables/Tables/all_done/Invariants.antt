use Rattle.std.proofs.Common.{◌≡◌, ◌≤◌, ℕ}
use Rattle.dd_tables.specs.Tables.{tasks_of}
use Rattle.dd_machine.specs.declared.task_state.TaskState.TheVariants.{Done}
use Rattle.dd_machine.specs.Words.{IsOf}
use Rattle.dd_tables.proofs.tables.Tables.all_done.Given as goal

abbrev pub invariant-loop-i : goal.invariant-loop-i
invariant-loop-i l = (t : ℕ) → IsOf l.plan l.region t → t ≤ l.i → tasks_of l.self.tasks.items t ≡ Done
