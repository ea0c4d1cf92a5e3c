-- What a move of an array to a space asks for.
use Rattle.std.specs.Prelude.{ℕ, not, nat_eq, List}
use Rattle.std.specs.List.{filter, flat_map}
use Rattle.dd_blocks.specs.declared.plan.Plan.{Plan}
use Rattle.dd_machine.specs.declared.event.Event.{Event}
use Rattle.dd_machine.specs.Owed.{blocks_of, shifted_to}
use Rattle.dd_machine.specs.States.{State}

-- the blocks of an array that have their home elsewhere
abbrev pub blocks_away : Plan → State → ℕ → ℕ → List ℕ
blocks_away plan st array space = filter (λ b. not (nat_eq (st.homes b) space)) (blocks_of plan array)

-- each of these gets its home there
abbrev pub move_events : Plan → State → ℕ → ℕ → List Event
move_events plan st array space = flat_map (shifted_to space) (blocks_away plan st array space)
