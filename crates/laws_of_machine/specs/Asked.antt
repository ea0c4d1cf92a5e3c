-- Which entries of a run the statements ask for.
use Rattle.std.specs.Prelude.{ℕ, Bool, true, false, List, [], ◌∷◌, ◌++◌, Option, Some, None, if◌then◌else◌}
use Rattle.dd_blocks.specs.declared.plan.Plan.{Plan}
use Rattle.dd_machine.specs.declared.entry.Entry.{Entry}
use Rattle.dd_machine.specs.declared.event.Event.{Event}
use Rattle.dd_machine.specs.declared.event.Event.TheVariants.{Ask, Rest, Put, Shift, Free, Begin, Close}
use Rattle.dd_machine.specs.Effects.{after}
use Rattle.dd_machine.specs.States.{State}

-- outside a region a statement asks for the event, whatever its numbers; inside one it asks for its end alone
abbrev pub asked_outside : Event → Bool
asked_outside (Ask space block) = true
asked_outside Rest = true
asked_outside (Put block) = true
asked_outside (Shift block space) = true
asked_outside (Free space block) = true
asked_outside (Begin region) = true
asked_outside _ = false

abbrev pub asked_inside : Event → Bool
asked_inside (Close region) = true
asked_inside _ = false

-- where this region is open, or none, a statement asks for the event
abbrev pub is_asked : Option ℕ → Event → Bool
is_asked None event = asked_outside event
is_asked (Some region) event = asked_inside event

-- of the entries that are made from a state on, those that the statements ask for
unfoldable pub asked : Plan → State → List Entry → List Entry
asked plan st [] = []
asked plan st (entry ∷ entries) = (if is_asked st.region entry.event then entry ∷ [] else []) ++ asked plan (after plan st entry.event) entries
