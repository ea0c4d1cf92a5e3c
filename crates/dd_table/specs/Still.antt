-- What leads tasks on, and when none can be led on. These speak of the machine alone.
use Rattle.std.specs.Prelude.{◌≡◌, ◌≢◌, ◌⊎◌, ℕ, ◌<◌, true}
use Rattle.dd_blocks.specs.declared.plan.Plan.{Plan}
use Rattle.dd_blocks.specs.Numbered.{task_row}
use Rattle.dd_legal.specs.Starts.{MayStart}
use Rattle.dd_machine.specs.declared.event.Event.{Event}
use Rattle.dd_machine.specs.declared.event.Event.TheVariants.{Hold, Pick, Gone, Make, Call, Come, Lend, Copy}
use Rattle.dd_machine.specs.declared.task_state.TaskState.TheVariants.{Waiting, Held, Done}
use Rattle.dd_machine.specs.Bytes.{reserved}
use Rattle.dd_machine.specs.GoesOn.{LeadsHeldOn}
use Rattle.dd_machine.specs.Legal.{May, held_too}
use Rattle.dd_machine.specs.States.{State}
use Rattle.dd_machine.specs.Tests.{is_active}
use Rattle.dd_machine.specs.Words.{IsOneOf, IsOf, has_number, limit, place, proc_of, tasks}

-- what `next` enters before a Claim
abbrev pub IsPreparing : Event → Type 0
IsPreparing (Hold task) = Unit {0}
IsPreparing (Pick space block) = Unit {0}
IsPreparing (Gone space block) = Unit {0}
IsPreparing (Make task block) = Unit {0}
IsPreparing (Call space block) = Unit {0}
IsPreparing (Come space block) = Unit {0}
IsPreparing (Lend task block source) = Unit {0}
IsPreparing (Copy task block source count) = Unit {0}
IsPreparing _ = ⊥

-- a waiting task waits for a reason: a dependency that isn't done, a processor at work, or a Hold past the limit
abbrev pub HasToWait : Plan → State → ℕ → Type 0
HasToWait plan st task =
    ((d : ℕ) × (has_number (task_row plan task).deps d ≡ true) × (st.tasks d ≢ Done))
    ⊎ (((t : ℕ) × IsOneOf (tasks plan) t × (proc_of plan t ≡ proc_of plan task) × (is_active (st.tasks t) ≡ true))
    ⊎ (limit plan (place plan task) < reserved plan (held_too st task) (place plan task)))

-- no task of the region can be led on, or held
pub record StandsStill (plan : Plan) (st : State) (region : ℕ) : Type 0 where
  pub held : (task : ℕ) → IsOf plan region task → st.tasks task ≡ Held → (MayStart plan st task → ⊥) × ((event : Event) → LeadsHeldOn plan st task event → May plan st event → ⊥)
  pub waiting : (task : ℕ) → IsOf plan region task → st.tasks task ≡ Waiting → HasToWait plan st task
