-- Legal runs: lists of entries, each legal in the state after those before it.
use Rattle.std.specs.Prelude.{◌≡◌, Bool, true, false, List, [], ◌∷◌, None}
use Rattle.std.specs.List.{list_any}
use Rattle.dd_blocks.specs.declared.plan.Plan.{Plan}
use Rattle.dd_blocks.specs.Numbered.{block_row}
use Rattle.dd_machine.specs.declared.entry.Entry.{Entry}
use Rattle.dd_machine.specs.declared.event.Event.{Event}
use Rattle.dd_machine.specs.declared.event.Event.TheVariants.{Pick}
use Rattle.dd_machine.specs.declared.task_state.TaskState.TheVariants.{Waiting}
use Rattle.dd_machine.specs.Effects.{after}
use Rattle.dd_machine.specs.Legal.{Legal, May}
use Rattle.dd_machine.specs.Owed.{left}
use Rattle.dd_machine.specs.States.{State}

-- no copies, nothing made, each block at its first home
abbrev pub start : Plan → State
start plan = record {
  copies = λ s b. None;
  orders = λ s. [];
  tasks = λ t. Waiting;
  current = λ e. 0;
  homes = λ b. (block_row plan b).home;
  moved = 0;
  region = None;
  pin = None;
  progress = record { row = 0; made = 0 };
}

-- each entry is legal in the state after those before it
unfoldable pub IsRun : Plan → State → List Entry → Type 0
IsRun plan st [] = Unit {0}
IsRun plan st (entry ∷ entries) = Legal plan st entry × IsRun plan (after plan st entry.event) entries

-- the state after some entries
unfoldable pub state_after : Plan → State → List Entry → State
state_after plan st [] = st
state_after plan st (entry ∷ entries) = state_after plan (after plan st entry.event) entries

-- a run from the start, and one after which nothing is left
abbrev pub IsLegalRun : Plan → List Entry → Type 0
IsLegalRun plan entries = IsRun plan (start plan) entries

abbrev pub state_of_run : Plan → List Entry → State
state_of_run plan entries = state_after plan (start plan) entries

abbrev pub IsWholeRun : Plan → List Entry → Type 0
IsWholeRun plan entries = IsLegalRun plan entries × (left plan (state_of_run plan entries).progress ≡ [])

-- the event is refused after these entries, on whatever line: they are a legal run, and it isn't legal after them
abbrev pub IsRefused : Plan → List Entry → Event → Type 0
IsRefused plan entries event = IsLegalRun plan entries × (May plan (state_of_run plan entries) event → ⊥)

-- one of the entries spills a block
abbrev pub is_pick : Event → Bool
is_pick (Pick space block) = true
is_pick _ = false

unfoldable pub has_pick : List Entry → Bool
has_pick entries = list_any (λ entry. is_pick entry.event) entries
