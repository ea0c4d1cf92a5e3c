use Rattle.std.proofs.Common.{◌≢◌, ℕ, ◌<◌, ◌≤◌}
use Rattle.dd_machine.specs.declared.task_state.TaskState.TheVariants.{Running}
use Rattle.dd_table.specs.Tables.{state_now}
use Rattle.dd_table.proofs.table.Table.has_out.Given as goal

abbrev pub invariant-loop-i : goal.invariant-loop-i
invariant-loop-i g l = (t : ℕ) → l.before < t → t ≤ l.i → (state_now l.self).tasks t ≢ Running l.worker
