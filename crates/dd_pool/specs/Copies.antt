-- The copies in the memory of the spaces.
use Rattle.std.specs.Prelude.{◌≡◌, ℕ, ◌*◌, ◌<◌, ◌≤◌, List, length, Option, None}
use Rattle.std.specs.List.{All}
use Rattle.dd_stamps.specs.declared.stamped.Stamped.{Stamped}
use Rattle.dd_stamps.specs.Cells.{size_of}
use Rattle.dd_stamps.specs.Copies.{IsOfSameBlock}
use Rattle.dd_pool.specs.declared.copies.Copies.{Copies}
use Rattle.dd_pool.specs.Cells.{cell}
use Rattle.dd_pool.specs.Held.{bytes_in}
use Rattle.dd_pool.specs.Places.{IsPlace, place_of}

-- the copy of a block in the memory of a space
abbrev pub held_at : Copies → ℕ → ℕ → Option Stamped
held_at copies space block = cell copies.cells (place_of copies.plan.now space block)

-- the bytes of the copies in the memory of a space
abbrev pub held_bytes : Copies → ℕ → ℕ
held_bytes copies space = bytes_in copies.plan.now copies.cells space

-- the memory of a space has this of the block now, and nothing else changed in the memory of the spaces
pub record Holds (old new : Copies) (space block : ℕ) (copy : Option Stamped) : Type 0 where
  pub plan : new.plan ≡ old.plan
  pub here : held_at new space block ≡ copy
  pub others : (s b : ℕ) → IsPlace old.plan.now s b → (s ≡ space → b ≡ block → ⊥) → held_at new s b ≡ held_at old s b

-- the copy of a block went from a space to another, and nothing else changed in the memory of the spaces
pub record Shifts (old new : Copies) (space block to : ℕ) : Type 0 where
  pub plan : new.plan ≡ old.plan
  pub here : held_at new to block ≡ held_at old space block
  pub gone : held_at new space block ≡ None
  pub others : (s b : ℕ) → IsPlace old.plan.now s b → (s ≡ space → b ≡ block → ⊥) → (s ≡ to → b ≡ block → ⊥) → held_at new s b ≡ held_at old s b

-- all copies are as they were
pub record HoldsSame (old new : Copies) : Type 0 where
  pub plan : new.plan ≡ old.plan
  pub same : (s b : ℕ) → held_at new s b ≡ held_at old s b

-- the places are of the copy's block, and it has the spare to take them
pub record HasRoomFor (copy : Stamped) (places : List ℕ) : Type 0 where
  pub within : All (λ p. p < size_of copy.plan.now copy.block) places
  pub spare : 2 * length places ≤ copy.versions.spare

-- the copy is as it was, but that it may have more spare
pub record HasMoreSpare (old new : Stamped) : Type 0 where
  pub same : IsOfSameBlock old new
  pub told : new.told.mark ≡ old.told.mark
  pub versions : new.versions.list ≡ old.versions.list
  pub values : new.values.items ≡ old.values.items
  pub spare : old.versions.spare ≤ new.versions.spare
