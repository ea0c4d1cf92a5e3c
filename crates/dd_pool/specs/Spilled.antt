-- What stays of a slot with versions.
use Rattle.std.specs.Prelude.{◌≡◌}
use Rattle.dd_store.specs.declared.store.Slot.{Ghosts}
use Rattle.dd_pool.specs.declared.spilled.Spilled.{Spilled}

module _ {S : Type 0} {h : Ghosts S} where
  -- all but the slot is as it was, and so is what the slot holds
  pub record KeepsSpilled (old new : Spilled S h) : Type 0 where
    pub plan : new.plan ≡ old.plan
    pub block : new.block ≡ old.block
    pub versions : new.versions ≡ old.versions
    pub values : new.values.value ≡ old.values.value
    pub told : new.told.mark ≡ old.told.mark
    pub content : Ghosts.content h new.slot ≡ Ghosts.content h old.slot
