use Rattle.std.proofs.Common.{◌≢◌, ◌≤◌, ℕ}
use Rattle.dd_machine.specs.declared.task_state.TaskState.TheVariants.{Running}
use Rattle.dd_tables.specs.Shares.{worker_at}
use Rattle.dd_tables.specs.Tables.{tasks_of}
use Rattle.dd_legal.proofs.running.is_free.Given as goal

abbrev pub invariant-loop-i : goal.invariant-loop-i
invariant-loop-i l = (p : ℕ) → p ≤ l.i → worker_at l.tables.at_work.items p ≢ 0 → tasks_of l.tables.tasks.items (worker_at l.tables.at_work.items p) ≢ Running l.worker
