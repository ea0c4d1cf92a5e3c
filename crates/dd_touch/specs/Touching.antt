-- Which blocks a view has elements in, by the rows and the columns of blocks, both from 0.
use Rattle.std.specs.Prelude.{◌≡◌, ◌↔◌, ◌⊎◌, ℕ, ◌+◌, ◌*◌, ◌^◌, ◌<◌, ◌≤◌, true, List, Any, Contains}
use Rattle.dd_views.specs.declared.span3.Span3.{Span3}
use Rattle.dd_views.specs.declared.view.View.{View}
use Rattle.dd_views.specs.IndexList.{index_list, keeps}
use Rattle.dd_blocks.specs.declared.access_row.AccessRow.{AccessRow}
use Rattle.dd_blocks.specs.declared.array_row.ArrayRow.{ArrayRow}
use Rattle.dd_blocks.specs.declared.plan.Plan.{Plan}
use Rattle.dd_blocks.specs.Charges.{block_with}
use Rattle.dd_blocks.specs.Grids.{IsGrid, block_count, block_of, block_rows}
use Rattle.dd_touch.specs.Strips.{strip_at}

-- an array whose rows, columns and blocks have numbers of 32 bits
pub record HasSmallNumbers (array : ArrayRow) : Type 0 where
  pub grid : IsGrid array.grid
  pub rows : array.grid.rows < 2 ^ 32
  pub cols : array.grid.cols < 2 ^ 32
  pub small : array.first_block + block_count array.grid ≤ 2 ^ 32

-- the number of the block at the row i and the column j of blocks
abbrev pub number_of_block : ArrayRow → ℕ → ℕ → ℕ
number_of_block array i j = array.first_block + (j * block_rows array.grid + i)

-- something holds of the number, with some i from low on and below high
abbrev pub Between : (ℕ → ℕ → Type 0) → ℕ → ℕ → ℕ → Type 0
Between P low high n = (i : ℕ) × (low ≤ i) × (i < high) × P i n

-- the number is that of the block in a column of blocks in which the row at the place i lies
abbrev pub IsBlockAt : ArrayRow → Span3 → ℕ → ℕ → ℕ → Type 0
IsBlockAt array rows col i n = number_of_block array (strip_at rows array.grid.brows i) col ≡ n

-- the number is that of a block in which the view has an element of the column at the place k
abbrev pub IsTouchedIn : ArrayRow → View → ℕ → ℕ → Type 0
IsTouchedIn array view k n =
    (i : ℕ) × (1 ≤ i) × (i ≤ view.rows.count) × (keeps view.part i k ≡ true) × IsBlockAt array view.rows (strip_at view.cols array.grid.bcols k) i n

-- the number is that of a block in which the view has an element
abbrev pub IsTouchedBy : ArrayRow → View → ℕ → Type 0
IsTouchedBy array view n = (pos : ℕ) × Contains (index_list view) pos × (array.first_block + block_of array.grid pos ≡ n)

-- the block has an element of the access
abbrev pub HoldsSome : Plan → AccessRow → ℕ → Type 0
HoldsSome plan access block = (pos : ℕ) × Contains (index_list access.view) pos × (block_with plan access.view.array pos ≡ block)

-- the numbers are those of the blocks that have an element of some access
pub record AreOf (plan : Plan) (accesses : List AccessRow) (found : List ℕ) : Type 0 where
  pub exact : (n : ℕ) → Contains found n ↔ Any (λ (a : AccessRow). HoldsSome plan a n) accesses

-- the new list has the numbers of the old one and those of which P holds
pub record Adds (P : ℕ → Type 0) (old new : List ℕ) : Type 0 where
  pub exact : (n : ℕ) → Contains new n ↔ (Contains old n ⊎ P n)
