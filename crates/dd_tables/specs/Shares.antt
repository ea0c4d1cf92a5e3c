-- What one task takes of a space.
use Rattle.std.specs.Prelude.{ℕ, Bool, ◌&&◌, nat_eq, not, List}
use Rattle.dd_blocks.specs.declared.plan.Plan.{Plan}
use Rattle.dd_copies.specs.Numbers.{at_number, or_else}
use Rattle.dd_machine.specs.Bytes.{when}
use Rattle.dd_machine.specs.States.{State}
use Rattle.dd_machine.specs.Tests.{is_active, is_running, is_task_held}
use Rattle.dd_machine.specs.Words.{argument_bytes, place, scratch, touches}

-- the arguments of a task that is Running, of one that is Held or Running, and the scratch of one that is Held
abbrev pub running_of : Plan → State → ℕ → ℕ → ℕ
running_of plan st space t = when (is_running (st.tasks t) && nat_eq (place plan t) space) (argument_bytes plan t)

abbrev pub active_of : Plan → State → ℕ → ℕ → ℕ
active_of plan st space t = when (is_active (st.tasks t) && nat_eq (place plan t) space) (argument_bytes plan t)

abbrev pub scratch_of : Plan → State → ℕ → ℕ → ℕ
scratch_of plan st space t = when (is_task_held (st.tasks t) && nat_eq (place plan t) space) (scratch plan t)

-- the task at work on a processor, or 0
abbrev pub worker_at : List ℕ → ℕ → ℕ
worker_at at_work p = or_else 0 (at_number at_work p)

-- a task at work, where there is one, is of the space and touches the block
abbrev pub is_user : Plan → ℕ → ℕ → ℕ → Bool
is_user plan space block t = not (nat_eq t 0) && (nat_eq (place plan t) space && touches plan t block)
