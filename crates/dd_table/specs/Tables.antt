-- A table, as callers see it.
use Rattle.std.specs.Prelude.{◌≡◌, ◌⊎◌, ℕ, ◌≤◌, List, [], ◌++◌, true, is_some, Option, None, Some, Result, Ok, Err}
use Rattle.dd_causes.specs.Counts.{Rose}
use Rattle.dd_holding.specs.Holdings as holdings
use Rattle.dd_holding.specs.Holdings.{Holds}
use Rattle.dd_machine.specs.declared.entry.Entry.{Entry}
use Rattle.dd_machine.specs.declared.event.Event.{Event}
use Rattle.dd_machine.specs.Owed.{left, next_line}
use Rattle.dd_machine.specs.States.{State}
use Rattle.dd_store.specs.declared.store.Slot.{Ghosts as SlotGhosts}
use Rattle.dd_store.specs.declared.store.Store.{Ghosts}
use Rattle.dd_table.specs.declared.fault.RunFault.{RunFault}
use Rattle.dd_table.specs.declared.fault.RunFault.TheVariants.{DiskFault}
use Rattle.dd_table.specs.declared.table.Table.{Table}
use Rattle.dd_core.specs.Lines.{with_line}

-- the number, or 0 where there is none
abbrev pub or_zero : Option ℕ → ℕ
or_zero None = 0
or_zero (Some n) = n

module _ {D S : Type 0} {g : Ghosts D S} {h : SlotGhosts S} where
  -- the state of the machine after the entries so far
  abbrev pub state_now : Table D S g h → State
  state_now t = holdings.state_now t.holding

  -- the line that the next entry has, or 0 where none is left
  abbrev pub line_now : Table D S g h → ℕ
  line_now t = or_zero (next_line (left t.holding.ledger.plan.now (state_now t).progress))

  -- some entry is left, so the next one has a line
  abbrev pub IsLeft : Table D S g h → Type 0
  IsLeft t = is_some (next_line (left t.holding.ledger.plan.now (state_now t).progress)) ≡ true

  -- the journal has these entries more; the Plan, the names of arrays and the opening numbers are as they were, and the store's
  -- count of faults hasn't fallen
  pub record GrowsBy (t u : Table D S g h) (added : List Entry) : Type 0 where
    pub holds : Holds t.holding u.holding added
    pub opening : u.opening.value ≡ t.opening.value
    pub faults : Ghosts.faults g t.store ≤ Ghosts.faults g u.store

  -- the events were entered, all with the next line, and the kept cause stays
  pub record Enters (t u : Table D S g h) (events : List Event) : Type 0 where
    pub grows : GrowsBy t u (with_line (line_now t) events)
    pub cause : u.cause ≡ t.cause

  -- nothing but the names of an array changed
  pub record Renames (t u : Table D S g h) : Type 0 where
    pub plan : u.holding.ledger.plan ≡ t.holding.ledger.plan
    pub journal : u.holding.ledger.journal.items ≡ t.holding.ledger.journal.items
    pub opening : u.opening.value ≡ t.opening.value
    pub store : u.store ≡ t.store
    pub cause : u.cause ≡ t.cause

  -- the disk is the cause only where the store's count rose in the call, or the disk was the kept cause before
  abbrev pub IsCaused : Table D S g h → Table D S g h → RunFault → Type 0
  IsCaused t u fault = fault ≡ DiskFault → (t.cause ≡ Some DiskFault) ⊎ Rose (Ghosts.faults g t.store) (Ghosts.faults g u.store)

  -- the run stops: a prefix of the events was entered, and the cause is kept
  pub record Stops (t u : Table D S g h) (events : List Event) (fault : RunFault) : Type 0 where
    pub done : List Event
    pub rest : List Event
    pub all : events ≡ done ++ rest
    pub grows : GrowsBy t u (with_line (line_now t) done)
    pub cause : u.cause ≡ Some fault
    pub disk : IsCaused t u fault
    pub kept : (f : RunFault) → t.cause ≡ Some f → (fault ≡ f) × (done ≡ [])

  -- the events were entered, and no cause is kept or was
  pub record Ends (t u : Table D S g h) (events : List Event) : Type 0 where
    pub enters : Enters t u events
    pub none : t.cause ≡ None

  -- what a statement call gives
  abbrev pub Gives : Table D S g h → Table D S g h → List Event → Result (Unit {0}) RunFault → Type 0
  Gives t u events (Ok done) = Ends t u events
  Gives t u events (Err fault) = Stops t u events fault
