-- What the calls that print enter.
use Rattle.std.specs.Prelude.{◌≡◌, ◌⊎◌, ℕ, List, [], ◌++◌, Some, Result, Ok, Err}
use Rattle.dd_causes.specs.Counts.{Rose}
use Rattle.dd_machine.specs.declared.event.Event.{Event}
use Rattle.dd_print.specs.Causes.{of_run}
use Rattle.dd_print.specs.declared.fault.PrintFault.{PrintFault}
use Rattle.dd_print.specs.declared.fault.PrintFault.TheVariants.{DiskFault}
use Rattle.dd_statements.specs.Follows.{Adds, Follows}
use Rattle.dd_store.specs.declared.store.Slot.{Ghosts as SlotGhosts}
use Rattle.dd_store.specs.declared.store.Store.{Ghosts}
use Rattle.dd_table.specs.declared.fault.RunFault.{RunFault}
use Rattle.dd_table.specs.declared.fault.RunFault.TheVariants as run
use Rattle.dd_table.specs.declared.table.Table.{Table}

module _ {D S : Type 0} {g : Ghosts D S} {h : SlotGhosts S} where
  -- the print ended early, when the first of the events were entered. The disk is why only where the store's count rose in the call,
  -- or it was the kept cause before, and then it is kept. Where a cause was kept before, it is why: nothing was entered, and it stays
  pub record Breaks (t u : Table D S g h) (line : ℕ) (events : List Event) (fault : PrintFault) : Type 0 where
    pub done : List Event
    pub rest : List Event
    pub all : events ≡ done ++ rest
    pub adds : Adds t u line done
    pub disk : fault ≡ DiskFault → (t.cause ≡ Some run.DiskFault) ⊎ Rose (Ghosts.faults g t.store) (Ghosts.faults g u.store)
    pub counted : fault ≡ DiskFault → u.cause ≡ Some run.DiskFault
    pub kept : (f : RunFault) → t.cause ≡ Some f → (fault ≡ of_run f) × (adds.added ≡ []) × (u.cause ≡ Some f)

  -- what a call gives that asks for these events: all were entered, or the first of them
  abbrev pub PrintGives : {T : Type 0} → Table D S g h → Table D S g h → ℕ → List Event → Result T PrintFault → Type 0
  PrintGives t u line events (Ok done) = Follows t u line events
  PrintGives t u line events (Err fault) = Breaks t u line events fault
