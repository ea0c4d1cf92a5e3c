-- The elements of a column of a view that stand in a block.
use Rattle.std.specs.Prelude.{◌≡◌, ◌≢◌, ℕ, ◌+◌, ◌*◌, ◌-◌, ◌^◌, ◌<◌, ◌≤◌, pos, ◌≤ℤ◌}
use Rattle.dd_views.specs.declared.column.Column.{Column}
use Rattle.dd_views.specs.Positions.{position_in, stepped}
use Rattle.dd_blocks.specs.declared.grid.Grid.{Grid}
use Rattle.dd_blocks.specs.Grids.{block_height, block_of, col_of, col_of_block, element_count, place_in_block, row_of_block}
use Rattle.dd_stamps.specs.declared.piece.Piece.{Piece}
use Rattle.dd_stamps.specs.declared.piece.Window.{Window}

-- a column of a view of an array with this grid: its positions stand in one column of the array
pub record IsColumnIn (g : Grid) (c : Column) : Type 0 where
  pub steps : c.step ≢ pos 0
  pub small : c.first < 2 ^ 63
  pub whole : (i : ℕ) → i < c.count → pos 0 ≤ℤ stepped c i
  pub inside : (i : ℕ) → i < c.count → position_in c i < element_count g
  pub beside : (i : ℕ) → i < c.count → col_of g (position_in c i) ≡ col_of g c.first

-- where a block stands in its array
pub record IsWindowOf (g : Grid) (block : ℕ) (w : Window) : Type 0 where
  pub left : w.left ≡ col_of_block g block * g.bcols
  pub right : w.right ≡ col_of_block g block * g.bcols + g.bcols
  pub top : w.top ≡ row_of_block g block * g.brows
  pub height : w.height ≡ block_height g block

-- the place in its block of an element of the column, by its number in the column, from 0
abbrev pub place_in : Grid → Column → ℕ → ℕ
place_in g c i = place_in_block g (position_in c i)

-- the same, as a piece says it
abbrev pub place_at : Column → Piece → ℕ → ℕ
place_at c p i = p.place + (position_in c i - p.low)

-- the piece has the elements of the column that are in the block, and knows their places there
pub record IsPieceOf (g : Grid) (block : ℕ) (c : Column) (p : Piece) : Type 0 where
  pub order : p.from ≤ p.end
  pub few : p.end ≤ c.count
  pub here : (i : ℕ) → p.from ≤ i → i < p.end → block_of g (position_in c i) ≡ block
  pub low_is : (i : ℕ) → p.from ≤ i → i < p.end → p.low ≤ position_in c i
  pub place_is : (i : ℕ) → p.from ≤ i → i < p.end → place_in g c i ≡ place_at c p i
  pub others : (i : ℕ) → i < c.count → block_of g (position_in c i) ≡ block → (p.from ≤ i) × (i < p.end)

-- the elements of a piece have places below a size, and no two the same
pub record HasPlaces (c : Column) (p : Piece) (size : ℕ) : Type 0 where
  pub order : p.from ≤ p.end
  pub few : p.end ≤ c.count
  pub small : c.first < 2 ^ 63
  pub whole : (i : ℕ) → i < c.count → pos 0 ≤ℤ stepped c i
  pub inside : (i : ℕ) → i < c.count → position_in c i < 2 ^ 63
  pub low_is : (i : ℕ) → p.from ≤ i → i < p.end → p.low ≤ position_in c i
  pub within : (i : ℕ) → p.from ≤ i → i < p.end → place_at c p i < size
  pub apart : (i k : ℕ) → p.from ≤ i → i < k → k < p.end → place_at c p i ≢ place_at c p k
