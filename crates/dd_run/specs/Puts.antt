-- What the making of an array asks for.
use Rattle.std.specs.Prelude.{ℕ, List, [], ◌∷◌}
use Rattle.std.specs.List.{flat_map}
use Rattle.dd_blocks.specs.declared.plan.Plan.{Plan}
use Rattle.dd_machine.specs.declared.event.Event.{Event}
use Rattle.dd_machine.specs.declared.event.Event.TheVariants.{Ask, Put, Rest}
use Rattle.dd_machine.specs.Owed.{blocks_of}
use Rattle.dd_machine.specs.States.{State}

-- a block is asked for at its home, made there, and given up
abbrev pub put_one : State → ℕ → List Event
put_one st block = Ask (st.homes block) block ∷ Put block ∷ Rest ∷ []

-- each block of the array is
abbrev pub put_events : Plan → State → ℕ → List Event
put_events plan st array = flat_map (put_one st) (blocks_of plan array)
