-- What the write-back asks for when it brings elements home.
use Rattle.std.specs.Prelude.{ℕ, List, [], ◌∷◌, length, nat_lt, if◌then◌else◌}
use Rattle.dd_blocks.specs.declared.plan.Plan.{Plan}
use Rattle.dd_machine.specs.declared.event.Event.{Event}
use Rattle.dd_machine.specs.declared.event.Event.TheVariants.{Back, Lend}
use Rattle.dd_machine.specs.Needed.{needed}
use Rattle.dd_machine.specs.States.{State}
use Rattle.dd_machine.specs.Tests.{is_in_state, is_out}

-- what the home copy of a block needs from a space
abbrev pub back_of : Plan → State → ℕ → ℕ → Event
back_of plan st block source = Back block source (length (needed plan st 0 block source))

-- the first event: the copy there is lent where it is Out
abbrev pub first_pull : Plan → State → ℕ → ℕ → Event
first_pull plan st block source = if is_in_state is_out (st.copies source block) then Lend 0 block source else back_of plan st block source

-- all of them
abbrev pub pull_events : Plan → State → ℕ → ℕ → List Event
pull_events plan st block source = if is_in_state is_out (st.copies source block) then Lend 0 block source ∷ (back_of plan st block source ∷ []) else back_of plan st block source ∷ []

-- and none where nothing is needed from the space
abbrev pub pulled : Plan → State → ℕ → ℕ → List Event
pulled plan st block source = if nat_lt 0 (length (needed plan st 0 block source)) then pull_events plan st block source else []
