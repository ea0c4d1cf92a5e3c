-- What an event does that gives a space a copy.
use Rattle.std.specs.Prelude.{◌≡◌, ℕ, List, Some}
use Rattle.dd_holding.specs.Views.{here_versions, slot_versions}
use Rattle.dd_machine.specs.States.{State}
use Rattle.dd_pool.specs.declared.pool.Pool.{Pool}
use Rattle.dd_pool.specs.declared.spilled.Spilled.{Spilled}
use Rattle.dd_pool.specs.Pools.{out_at}
use Rattle.dd_store.specs.declared.store.Slot.{Ghosts as SlotGhosts}
use Rattle.dd_store.specs.declared.store.Store.{Ghosts}

module _ {D S : Type 0} {g : Ghosts D S} {h : SlotGhosts S} where
  -- the block is Here in the space with these versions, every other copy is Here as it was, and each slot still has its copy's
  -- versions
  pub record AddsCopy (old new : State) (pool : Pool D S g h) (space block : ℕ) (versions : List ℕ) : Type 0 where
    pub here : here_versions (new.copies space block) ≡ Some versions
    pub others : (s b : ℕ) → (s ≡ space → b ≡ block → ⊥) → here_versions (new.copies s b) ≡ here_versions (old.copies s b)
    pub slots : (s b : ℕ) (out : Spilled S h) → (s ≡ space → b ≡ block → ⊥) → out_at pool s b ≡ Some out → slot_versions (new.copies s b) ≡ slot_versions (old.copies s b)
