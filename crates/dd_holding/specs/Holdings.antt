-- A holding, as callers see it.
use Rattle.std.specs.Prelude.{◌≡◌, ℕ, List, Option, is_some}
use Rattle.dd_holding.specs.declared.holding.Holding.{Holding}
use Rattle.dd_ledger.specs.Ledgers as ledgers
use Rattle.dd_ledger.specs.Ledgers.{GrowsBy}
use Rattle.dd_machine.specs.declared.entry.Entry.{Entry}
use Rattle.dd_machine.specs.States.{State}
use Rattle.dd_pool.specs.Places.{IsPlace}
use Rattle.dd_pool.specs.Pools.{out_at}
use Rattle.dd_pool.specs.declared.spilled.Spilled.{Spilled}
use Rattle.dd_store.specs.declared.store.Slot.{Ghosts as SlotGhosts}
use Rattle.dd_store.specs.declared.store.Store.{Ghosts}

module _ {D S : Type 0} {g : Ghosts D S} {h : SlotGhosts S} where
  -- the state of the machine after its entries
  abbrev pub state_now : Holding D S g h → State
  state_now x = ledgers.state_now x.ledger

  -- it is of the same Plan, has these entries more, and arrays have the names that they had
  pub record Holds (old new : Holding D S g h) (added : List Entry) : Type 0 where
    pub grows : GrowsBy old.ledger new.ledger added
    pub names : new.pool.names ≡ old.pool.names

  -- all slots are as they were
  abbrev pub KeepsSlots : Holding D S g h → Holding D S g h → Type 0
  KeepsSlots old new = (s b : ℕ) → IsPlace old.ledger.plan.now s b → out_at new.pool s b ≡ out_at old.pool s b

  -- the same places have slots
  abbrev pub StandSlots : Holding D S g h → Holding D S g h → Type 0
  StandSlots old new = (s b : ℕ) → IsPlace old.ledger.plan.now s b → is_some (out_at new.pool s b) ≡ is_some (out_at old.pool s b)

  -- the slot of a block of a space is this now, and all others are as they were
  pub record HasSlot (old new : Holding D S g h) (space block : ℕ) (out : Option (Spilled S h)) : Type 0 where
    pub here : out_at new.pool space block ≡ out
    pub others : (s b : ℕ) → IsPlace old.ledger.plan.now s b → (s ≡ space → b ≡ block → ⊥) → out_at new.pool s b ≡ out_at old.pool s b
