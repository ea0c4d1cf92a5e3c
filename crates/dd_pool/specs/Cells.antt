-- What is in the cells of a table.
use Rattle.std.specs.Prelude.{◌≡◌, ℕ, Option}
use Rattle.dd_pool.specs.declared.cells.Entry.{Entry}
use Rattle.dd_pool.specs.declared.cells.Cells.{Cells}
use Rattle.dd_pool.specs.Keys.{found, key_at}

-- what is in the cell at a place
abbrev pub cell : {T : Type 0} → Cells T → ℕ → Option T
cell cells i = found (λ (e : Entry _). e.item) cells.entries.slots (key_at cells.keys.items i)

-- one cell has this now, and all others have what they had
pub record HasNew {T : Type 0} (old new : Cells T) (at : ℕ) (item : Option T) : Type 0 where
  pub here : cell new at ≡ item
  pub others : (i : ℕ) → (i ≡ at → ⊥) → cell new i ≡ cell old i
