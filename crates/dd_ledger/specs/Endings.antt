-- The entries that are sure to follow, since each ends what is under way.
use Rattle.std.specs.Prelude.{ℕ, ◌+◌, is_some}
use Rattle.dd_blocks.specs.declared.plan.Plan.{Plan}
use Rattle.dd_machine.specs.declared.event.Event.{Event}
use Rattle.dd_machine.specs.declared.event.Event.TheVariants.{Ask, Rest, Put, Free, Begin, Make, Claim, Finish, Close}
use Rattle.dd_machine.specs.Bytes.{when}
use Rattle.dd_machine.specs.States.{State}
use Rattle.dd_machine.specs.Tests.{is_any, is_in_state, is_running}
use Rattle.dd_machine.specs.Words.{blocks, spaces, tasks, total}

-- a Finish for each Running task
abbrev pub finishes : Plan → State → ℕ
finishes plan st = total (tasks plan) (λ t. when (is_running (st.tasks t)) 1)

-- a Free for each copy
abbrev pub frees : Plan → State → ℕ
frees plan st = total (spaces plan) (λ s. total (blocks plan) (λ b. when (is_in_state is_any (st.copies s b)) 1))

-- a Rest for the pin, a Close for the open region, and those
unfoldable pub endings : Plan → State → ℕ
endings plan st = finishes plan st + (frees plan st + (when (is_some st.pin) 1 + when (is_some st.region) 1))

-- how many endings an event may add
abbrev pub opens : Event → ℕ
opens (Ask space block) = 1
opens (Put block) = 1
opens (Begin region) = 1
opens (Make task block) = 1
opens (Claim task worker) = 1
opens _ = 0

-- how many it makes: it is one of them itself
abbrev pub ends : Event → ℕ
ends Rest = 1
ends (Free space block) = 1
ends (Finish task) = 1
ends (Close region) = 1
ends _ = 0
