-- The copies of a pool, by space and block, its slots, and the names of its arrays.
use Rattle.std.specs.Prelude.{◌≡◌, ℕ, ◌-◌, Option, slice_index}
use Rattle.dd_blocks.specs.Numbered.{IsNumberIn}
use Rattle.dd_stamps.specs.declared.stamped.Stamped.{Stamped}
use Rattle.dd_store.specs.declared.store.Store.{Ghosts}
use Rattle.dd_store.specs.declared.store.Slot.{Ghosts as SlotGhosts}
use Rattle.dd_pool.specs.declared.spilled.Spilled.{Spilled}
use Rattle.dd_pool.specs.declared.pool.Pool.{Pool}
use Rattle.dd_pool.specs.Places.{IsPlace, place_of}
use Rattle.dd_pool.specs.Cells.{cell}
use Rattle.dd_pool.specs.Copies.{Holds, held_at, held_bytes}

module _ {D S : Type 0} {g : Ghosts D S} {h : SlotGhosts S} where
  -- the copy of a block in the memory of a space
  abbrev pub copy_at : Pool D S g h → ℕ → ℕ → Option Stamped
  copy_at pool space block = held_at pool.copies space block

  -- the slot of a block of a space
  abbrev pub out_at : Pool D S g h → ℕ → ℕ → Option (Spilled S h)
  out_at pool space block = cell pool.outs (place_of pool.plan.now space block)

  -- the bytes of the copies in the memory of a space
  abbrev pub bytes_at : Pool D S g h → ℕ → ℕ
  bytes_at pool space = held_bytes pool.copies space

  -- how many names an array has
  abbrev pub names_of : Pool D S g h → ℕ → ℕ
  names_of pool array = slice_index pool.names.items (array - 1)

  -- the Plan is the same, all slots are as they were, and all arrays have the names that they had
  pub record KeepsRest (old new : Pool D S g h) : Type 0 where
    pub plan : new.plan ≡ old.plan
    pub outs : (s b : ℕ) → out_at new s b ≡ out_at old s b
    pub names : new.names ≡ old.names

  -- the memory of a space has this of the block now, and nothing else changed
  pub record HasCopy (old new : Pool D S g h) (space block : ℕ) (copy : Option Stamped) : Type 0 where
    pub copies : Holds old.copies new.copies space block copy
    pub rest : KeepsRest old new

  -- nothing changed but slots
  pub record KeepsCopies (old new : Pool D S g h) : Type 0 where
    pub plan : new.plan ≡ old.plan
    pub copies : new.copies ≡ old.copies
    pub names : new.names ≡ old.names

  -- the slot of a block of a space is this now, and nothing else changed
  pub record HasOut (old new : Pool D S g h) (space block : ℕ) (out : Option (Spilled S h)) : Type 0 where
    pub here : out_at new space block ≡ out
    pub others : (s b : ℕ) → IsPlace old.plan.now s b → (s ≡ space → b ≡ block → ⊥) → out_at new s b ≡ out_at old s b
    pub rest : KeepsCopies old new

  -- an array has so many names now, and nothing else changed
  pub record HasNames (old new : Pool D S g h) (array count : ℕ) : Type 0 where
    pub here : names_of new array ≡ count
    pub others : (a : ℕ) → IsNumberIn old.plan.now.arrays a → (a ≡ array → ⊥) → names_of new a ≡ names_of old a
    pub plan : new.plan ≡ old.plan
    pub copies : new.copies ≡ old.copies
    pub outs : (s b : ℕ) → out_at new s b ≡ out_at old s b
