-- The spills that make room in a space.
use Rattle.std.specs.Prelude.{◌≡◌, ℕ, ◌≤◌, ◌<◌, List, [], ◌∷◌, Result, Ok, Err}
use Rattle.dd_blocks.specs.declared.plan.Plan.{Plan}
use Rattle.dd_machine.specs.declared.event.Event.{Event}
use Rattle.dd_machine.specs.declared.event.Event.TheVariants.{Pick, Gone}
use Rattle.dd_machine.specs.Bytes.{load}
use Rattle.dd_machine.specs.Effects.{after}
use Rattle.dd_machine.specs.States.{State}
use Rattle.dd_machine.specs.Words.{limit}
use Rattle.dd_table.specs.declared.fault.RunFault.{RunFault}

-- a block is picked because the load of its space is above the limit
abbrev pub IsPicked : Plan → State → ℕ → Event → Type 0
IsPicked plan st space event = (limit plan space < load plan st space) × ((block : ℕ) × (event ≡ Pick space block))

-- and then it is gone
abbrev pub IsSpilled : Plan → State → ℕ → Event → Event → Type 0
IsSpilled plan st space first second = (limit plan space < load plan st space) × ((block : ℕ) × (first ≡ Pick space block) × (second ≡ Gone space block))

-- the events are a Pick and a Gone for each block that goes, as many as it takes until the load of the space is within its limit
unfoldable pub MakeRoom : Plan → State → ℕ → List Event → Type 0
MakeRoom plan st space [] = load plan st space ≤ limit plan space
MakeRoom plan st space (first ∷ []) = ⊥
MakeRoom plan st space (first ∷ (second ∷ more)) = IsSpilled plan st space first second × MakeRoom plan (after plan (after plan st first) second) space more

-- some of them, from the first on
unfoldable pub BeginRoom : Plan → State → ℕ → List Event → Type 0
BeginRoom plan st space [] = Unit {0}
BeginRoom plan st space (first ∷ []) = IsPicked plan st space first
BeginRoom plan st space (first ∷ (second ∷ more)) = IsSpilled plan st space first second × BeginRoom plan (after plan (after plan st first) second) space more

-- what a call says of its spills: they make room; or, where it stops, they are some of those that do
abbrev pub RoomGives : Plan → State → ℕ → List Event → Result (Unit {0}) RunFault → Type 0
RoomGives plan st space spills (Ok done) = MakeRoom plan st space spills
RoomGives plan st space spills (Err fault) = BeginRoom plan st space spills
