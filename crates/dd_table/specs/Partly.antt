-- What a call leaves that stops half-way.
use Rattle.std.specs.Prelude.{◌≡◌, ℕ, List, ◌++◌}
use Rattle.dd_holding.specs.declared.holding.Holding.{Holding}
use Rattle.dd_holding.specs.Holdings.{Holds}
use Rattle.dd_machine.specs.declared.event.Event.{Event}
use Rattle.dd_store.specs.declared.store.Slot.{Ghosts as SlotGhosts}
use Rattle.dd_store.specs.declared.store.Store.{Ghosts}
use Rattle.dd_core.specs.Lines.{with_line}

module _ {D S : Type 0} {g : Ghosts D S} {h : SlotGhosts S} where
  -- a prefix of the events was entered, with this line
  pub record Partly (old new : Holding D S g h) (line : ℕ) (events : List Event) : Type 0 where
    pub done : List Event
    pub rest : List Event
    pub all : events ≡ done ++ rest
    pub holds : Holds old new (with_line line done)
