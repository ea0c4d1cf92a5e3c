-- The first legal one of some events.
use Rattle.std.specs.Prelude.{◌≡◌, ◌⊎◌, List, [], ◌∷◌, Option, Some, None}
use Rattle.dd_blocks.specs.declared.plan.Plan.{Plan}
use Rattle.dd_machine.specs.declared.event.Event.{Event}
use Rattle.dd_machine.specs.Legal.{May}
use Rattle.dd_machine.specs.States.{State}

-- the event is the first of the list that is legal; there is none where none of them is
unfoldable pub IsFirstLegal : Plan → State → List Event → Option Event → Type 0
IsFirstLegal plan st [] found = found ≡ None
IsFirstLegal plan st (event ∷ events) found = (May plan st event × (found ≡ Some event)) ⊎ ((May plan st event → ⊥) × IsFirstLegal plan st events found)
