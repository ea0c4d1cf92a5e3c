-- An array that is cut into blocks. Its positions, its blocks and the places in a block are numbered from 0, each
-- of them column by column.
use Rattle.std.specs.Prelude.{ℕ, ◌+◌, ◌-◌, ◌*◌, ◌/◌, ◌%◌, ◌^◌, ◌≤◌, ◌<◌, min}
use Rattle.std.specs.Int.{div_ceil}
use Rattle.dd_blocks.specs.declared.grid.Grid.{Grid}

-- how many elements the array has
abbrev pub element_count : Grid → ℕ
element_count g = g.rows * g.cols

-- what every call may assume of a grid
pub record IsGrid (g : Grid) : Type 0 where
  pub rows : 1 ≤ g.rows
  pub cols : 1 ≤ g.cols
  pub brows : 1 ≤ g.brows
  pub bcols : 1 ≤ g.bcols
  pub few : element_count g < 2 ^ 63

-- the length of a piece, by its number from 0, where a length is cut into pieces of one size: what is left for the
-- last one may be less
abbrev pub piece_len : ℕ → ℕ → ℕ → ℕ
piece_len length size piece = min size (length - piece * size)

-- how many blocks stand below each other
abbrev pub block_rows : Grid → ℕ
block_rows g = div_ceil g.rows g.brows

-- how many blocks stand beside each other
abbrev pub block_cols : Grid → ℕ
block_cols g = div_ceil g.cols g.bcols

abbrev pub block_count : Grid → ℕ
block_count g = block_rows g * block_cols g

-- the row and the column of a position
abbrev pub row_of : Grid → ℕ → ℕ
row_of g pos = pos % g.rows

abbrev pub col_of : Grid → ℕ → ℕ
col_of g pos = pos / g.rows

-- the row and the column of a block among the blocks
abbrev pub row_of_block : Grid → ℕ → ℕ
row_of_block g block = block % block_rows g

abbrev pub col_of_block : Grid → ℕ → ℕ
col_of_block g block = block / block_rows g

-- the rows and the columns that a block has
abbrev pub block_height : Grid → ℕ → ℕ
block_height g block = piece_len g.rows g.brows (row_of_block g block)

abbrev pub block_width : Grid → ℕ → ℕ
block_width g block = piece_len g.cols g.bcols (col_of_block g block)

abbrev pub block_size : Grid → ℕ → ℕ
block_size g block = block_height g block * block_width g block

-- the block that has a position
abbrev pub block_of : Grid → ℕ → ℕ
block_of g pos = (col_of g pos / g.bcols) * block_rows g + row_of g pos / g.brows

-- the place of a position in its block
abbrev pub place_in_block : Grid → ℕ → ℕ
place_in_block g pos = (col_of g pos % g.bcols) * block_height g (block_of g pos) + row_of g pos % g.brows

-- the position of a place in a block
abbrev pub pos_of : Grid → ℕ → ℕ → ℕ
pos_of g block place =
    (col_of_block g block * g.bcols + place / block_height g block) * g.rows
    + (row_of_block g block * g.brows + place % block_height g block)
