-- When a task may start, the worker aside.
use Rattle.std.specs.Prelude.{◌≡◌, ℕ, true}
use Rattle.dd_blocks.specs.declared.plan.Plan.{Plan}
use Rattle.dd_machine.specs.declared.task_state.TaskState.TheVariants.{Held}
use Rattle.dd_machine.specs.Legal.{Fits}
use Rattle.dd_machine.specs.Needed.{reads_current}
use Rattle.dd_machine.specs.States.{State}
use Rattle.dd_machine.specs.Tests.{Has, HasNoLend, is_here}
use Rattle.dd_machine.specs.Words.{argument_bytes, place, touches}

-- the task is Held, its blocks are Here, all that it reads is current, it has no lend, and its arguments fit
pub record MayStart (plan : Plan) (st : State) (task : ℕ) : Type 0 where
  pub held : st.tasks task ≡ Held
  pub all_here : (b : ℕ) → touches plan task b ≡ true → Has st (place plan task) b is_here
  pub all_current : (b : ℕ) → touches plan task b ≡ true → reads_current plan st task b ≡ true
  pub no_lend : HasNoLend st task
  pub fits : Fits plan st (place plan task) (argument_bytes plan task)
