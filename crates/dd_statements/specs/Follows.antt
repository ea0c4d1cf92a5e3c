-- What statements enter: the events that they ask for, in their order, and between these swaps, which make room in a space or bring a
-- copy back into it.
use Rattle.std.specs.Prelude.{◌≡◌, ℕ, ◌||◌, Bool, true, false, List, [], ◌++◌, None, Some, Result, Ok, Err, Contains}
use Rattle.std.specs.List.{filter, list_all}
use Rattle.dd_blocks.specs.declared.plan.Plan.{Plan}
use Rattle.dd_core.specs.Lines.{with_line}
use Rattle.dd_machine.specs.declared.event.Event.{Event}
use Rattle.dd_machine.specs.declared.event.Event.TheVariants.{Ask, Rest, Put, Shift, Free, Pick, Gone, Call, Come}
use Rattle.dd_machine.specs.Owed.{blocks_of}
use Rattle.dd_machine.specs.States.{State}
use Rattle.dd_machine.specs.Tests.{Has, is_any}
use Rattle.dd_store.specs.declared.store.Slot.{Ghosts as SlotGhosts}
use Rattle.dd_store.specs.declared.store.Store.{Ghosts}
use Rattle.dd_table.specs.declared.fault.RunFault.{RunFault}
use Rattle.dd_table.specs.declared.table.Table.{Table}
use Rattle.dd_table.specs.Tables.{GrowsBy, IsCaused, state_now}

-- a statement asks for the event, one that runs no tasks
abbrev pub is_owed : Event → Bool
is_owed (Ask space block) = true
is_owed Rest = true
is_owed (Put block) = true
is_owed (Shift block space) = true
is_owed (Free space block) = true
is_owed _ = false

-- the event swaps a block: out of a space where there isn't room enough, or back into it
abbrev pub is_swap : Event → Bool
is_swap (Pick space block) = true
is_swap (Gone space block) = true
is_swap (Call space block) = true
is_swap (Come space block) = true
is_swap _ = false

-- each event is one or the other
abbrev pub AreOrdered : List Event → Type 0
AreOrdered events = list_all (λ e. is_owed e || is_swap e) events ≡ true

-- the blocks of an array have their home copies
abbrev pub IsThere : Plan → State → ℕ → Type 0
IsThere plan st array = (block : ℕ) → Contains (blocks_of plan array) block → Has st (st.homes block) block is_any

module _ {D S : Type 0} {g : Ghosts D S} {h : SlotGhosts S} where
  -- no cause is kept, no region is open, and nothing is pinned
  pub record IsBetween (t : Table D S g h) : Type 0 where
    pub cause : t.cause ≡ None
    pub region : (state_now t).region ≡ None
    pub pin : (state_now t).pin ≡ None

  -- these events were entered, and swaps between them, all of one line
  pub record Adds (t u : Table D S g h) (line : ℕ) (events : List Event) : Type 0 where
    pub added : List Event
    pub ordered : AreOrdered added
    pub owed : filter is_owed added ≡ events
    pub grows : GrowsBy t u (with_line line added)

  -- all of them were entered, and no cause is kept or was
  pub record Follows (t u : Table D S g h) (line : ℕ) (events : List Event) : Type 0 where
    pub adds : Adds t u line events
    pub none : t.cause ≡ None
    pub cause : u.cause ≡ None

  -- the run stops: the first ones were entered, and the cause is kept. Where one was kept before, nothing was entered
  pub record StopsIn (t u : Table D S g h) (line : ℕ) (events : List Event) (fault : RunFault) : Type 0 where
    pub done : List Event
    pub rest : List Event
    pub all : events ≡ done ++ rest
    pub adds : Adds t u line done
    pub cause : u.cause ≡ Some fault
    pub disk : IsCaused t u fault
    pub kept : (f : RunFault) → t.cause ≡ Some f → (fault ≡ f) × (adds.added ≡ [])

  -- what a statement gives
  abbrev pub Asks : Table D S g h → Table D S g h → ℕ → List Event → Result (Unit {0}) RunFault → Type 0
  Asks t u line events (Ok done) = Follows t u line events
  Asks t u line events (Err fault) = StopsIn t u line events fault
