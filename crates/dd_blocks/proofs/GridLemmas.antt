-- Positions, blocks and places of a grid.
use Rattle.std.proofs.Common.{◌≡◌, ℕ, ◌+◌, ◌*◌, ◌/◌, ◌%◌, ◌^◌, ◌<◌, ◌≤◌, sym, ap, ◌∙◌, arith}
use Rattle.std.proofs.lemmas.Nat.{mul-le, mul-add-lt, div-add-mod', div-mul-add, mod-mul-add, mod_below, div_below}
use Rattle.dd_blocks.specs.declared.grid.Grid.{Grid}
use Rattle.dd_blocks.specs.Grids.{IsGrid, element_count, piece_len, block_rows, block_cols, block_count, row_of, col_of, row_of_block, col_of_block, block_height, block_width, block_size, block_of, place_in_block, pos_of}
use Rattle.dd_blocks.proofs.PiecesLemmas.{piece_within, place_within, begins_within, piece_some, piece_len_le, number_within, number_piece, number_place, pieces_few}

pub blocks_few : (g : Grid) → IsGrid g → block_count g ≤ element_count g
blocks_few g grid = mul-le (block_rows g) (block_cols g) g.rows g.cols (pieces_few g.rows g.brows grid.brows) (pieces_few g.cols g.bcols grid.bcols)

-- where a position stands
row_within : (g : Grid) (pos : ℕ) → IsGrid g → row_of g pos < g.rows
row_within g pos grid = mod_below pos g.rows grid.rows

col_within : (g : Grid) (pos : ℕ) → IsGrid g → pos < element_count g → col_of g pos < g.cols
col_within g pos grid lt = div_below pos g.rows g.cols grid.rows (omega arith)

above_within : (g : Grid) (pos : ℕ) → IsGrid g → row_of g pos / g.brows < block_rows g
above_within g pos grid = piece_within g.rows g.brows (row_of g pos) grid.brows (row_within g pos grid)

before_within : (g : Grid) (pos : ℕ) → IsGrid g → pos < element_count g → col_of g pos / g.bcols < block_cols g
before_within g pos grid lt = piece_within g.cols g.bcols (col_of g pos) grid.bcols (col_within g pos grid lt)

pub block_within : (g : Grid) (pos : ℕ) → IsGrid g → pos < element_count g → block_of g pos < block_count g
block_within g pos grid lt = mul-add-lt (col_of g pos / g.bcols) (block_rows g) (row_of g pos / g.brows) (block_cols g) (before_within g pos grid lt) (above_within g pos grid)

-- the row and the column of its block
row_of_its_block : (g : Grid) (pos : ℕ) → IsGrid g → row_of_block g (block_of g pos) ≡ row_of g pos / g.brows
row_of_its_block g pos grid = mod-mul-add (col_of g pos / g.bcols) (block_rows g) (row_of g pos / g.brows) (above_within g pos grid)

col_of_its_block : (g : Grid) (pos : ℕ) → IsGrid g → col_of_block g (block_of g pos) ≡ col_of g pos / g.bcols
col_of_its_block g pos grid = div-mul-add (col_of g pos / g.bcols) (block_rows g) (row_of g pos / g.brows) (above_within g pos grid)

-- the block's height
pub height_at : (g : Grid) (pos : ℕ) → IsGrid g → piece_len g.rows g.brows (row_of g pos / g.brows) ≡ block_height g (block_of g pos)
height_at g pos grid = ap (piece_len g.rows g.brows) (sym (row_of_its_block g pos grid))

pub begins_above : (g : Grid) (pos : ℕ) → IsGrid g → row_of g pos / g.brows * g.brows < g.rows
begins_above g pos grid = begins_within g.rows g.brows (row_of g pos / g.brows) grid.brows (above_within g pos grid)

-- and its row and its column in the block
below_height : (g : Grid) (pos : ℕ) → IsGrid g → row_of g pos % g.brows < block_height g (block_of g pos)
below_height g pos grid =
    let e : piece_len g.rows g.brows (row_of_block g (block_of g pos)) ≡ piece_len g.rows g.brows (row_of g pos / g.brows) = ap (piece_len g.rows g.brows) (row_of_its_block g pos grid) in
    omega (arith, e, place_within g.rows g.brows (row_of g pos) grid.brows (row_within g pos grid))

below_width : (g : Grid) (pos : ℕ) → IsGrid g → pos < element_count g → col_of g pos % g.bcols < block_width g (block_of g pos)
below_width g pos grid lt =
    let e : piece_len g.cols g.bcols (col_of_block g (block_of g pos)) ≡ piece_len g.cols g.bcols (col_of g pos / g.bcols) = ap (piece_len g.cols g.bcols) (col_of_its_block g pos grid) in
    omega (arith, e, place_within g.cols g.bcols (col_of g pos) grid.bcols (col_within g pos grid lt))

pub in_block : (g : Grid) (pos : ℕ) → IsGrid g → pos < element_count g → place_in_block g pos < block_size g (block_of g pos)
in_block g pos grid lt = mul-add-lt (col_of g pos % g.bcols) (block_height g (block_of g pos)) (row_of g pos % g.brows) (block_width g (block_of g pos)) (below_width g pos grid lt) (below_height g pos grid)

-- the position by the parts of its block and its place
by_parts : (g : Grid) (block place above before row col : ℕ) → row_of_block g block ≡ above → col_of_block g block ≡ before → place % block_height g block ≡ row → place / block_height g block ≡ col → pos_of g block place ≡ (before * g.bcols + col) * g.rows + (above * g.brows + row)
by_parts g block place above before row col a b c d = cc

pub position_back : (g : Grid) (pos : ℕ) → IsGrid g → pos < element_count g → pos_of g (block_of g pos) (place_in_block g pos) ≡ pos
position_back g pos grid lt =
    by_parts g (block_of g pos) (place_in_block g pos) (row_of g pos / g.brows) (col_of g pos / g.bcols) (row_of g pos % g.brows) (col_of g pos % g.bcols)
    (row_of_its_block g pos grid)
    (col_of_its_block g pos grid)
    (mod-mul-add (col_of g pos % g.bcols) (block_height g (block_of g pos)) (row_of g pos % g.brows) (below_height g pos grid))
    (div-mul-add (col_of g pos % g.bcols) (block_height g (block_of g pos)) (row_of g pos % g.brows) (below_height g pos grid))
    ∙ rw (div-add-mod' (col_of g pos) g.bcols, div-add-mod' (row_of g pos) g.brows) (div-add-mod' pos g.rows)

-- where a block stands
block_row_within : (g : Grid) (block : ℕ) → IsGrid g → block < block_count g → row_of_block g block < block_rows g
block_row_within g block grid lt = mod_below block (block_rows g) (omega (arith, above_within g 0 grid))

block_col_within : (g : Grid) (block : ℕ) → IsGrid g → block < block_count g → col_of_block g block < block_cols g
block_col_within g block grid lt = div_below block (block_rows g) (block_cols g) (omega (arith, above_within g 0 grid)) (omega arith)

pub rows_some : (g : Grid) → IsGrid g → 1 ≤ block_rows g
rows_some g grid = omega (arith, above_within g 0 grid)

pub begins_row : (g : Grid) (block : ℕ) → IsGrid g → block < block_count g → row_of_block g block * g.brows < g.rows
begins_row g block grid lt = begins_within g.rows g.brows (row_of_block g block) grid.brows (block_row_within g block grid lt)

pub begins_col : (g : Grid) (block : ℕ) → IsGrid g → block < block_count g → col_of_block g block * g.bcols < g.cols
begins_col g block grid lt = begins_within g.cols g.bcols (col_of_block g block) grid.bcols (block_col_within g block grid lt)

pub height_some : (g : Grid) (block : ℕ) → IsGrid g → block < block_count g → 1 ≤ block_height g block
height_some g block grid lt = piece_some g.rows g.brows (row_of_block g block) grid.brows (block_row_within g block grid lt)

pub width_some : (g : Grid) (block : ℕ) → IsGrid g → block < block_count g → 1 ≤ block_width g block
width_some g block grid lt = piece_some g.cols g.bcols (col_of_block g block) grid.bcols (block_col_within g block grid lt)

pub size_some : (g : Grid) (block : ℕ) → IsGrid g → block < block_count g → 1 ≤ block_size g block
size_some g block grid lt = mul-le 1 1 (block_height g block) (block_width g block) (height_some g block grid lt) (width_some g block grid lt)

pub size_few : (g : Grid) (block : ℕ) → block_size g block ≤ element_count g
size_few g block = mul-le (block_height g block) (block_width g block) g.rows g.cols (piece_len_le g.rows g.brows (row_of_block g block)) (piece_len_le g.cols g.bcols (col_of_block g block))

-- the row and the column of a place in a block
pub place_row : (g : Grid) (block place : ℕ) → IsGrid g → block < block_count g → place % block_height g block < block_height g block
place_row g block place grid lt = mod_below place (block_height g block) (height_some g block grid lt)

pub place_col : (g : Grid) (block place : ℕ) → IsGrid g → block < block_count g → place < block_size g block → place / block_height g block < block_width g block
place_col g block place grid lt within = div_below place (block_height g block) (block_width g block) (height_some g block grid lt) (omega arith)

pub row_inside : (g : Grid) (block place : ℕ) → IsGrid g → block < block_count g → row_of_block g block * g.brows + place % block_height g block < g.rows
row_inside g block place grid lt = number_within g.rows g.brows (row_of_block g block) (place % block_height g block) (place_row g block place grid lt)

pub col_inside : (g : Grid) (block place : ℕ) → IsGrid g → block < block_count g → place < block_size g block → col_of_block g block * g.bcols + place / block_height g block < g.cols
col_inside g block place grid lt within = number_within g.cols g.bcols (col_of_block g block) (place / block_height g block) (place_col g block place grid lt within)

pub pos_within : (g : Grid) (block place : ℕ) → IsGrid g → block < block_count g → place < block_size g block → pos_of g block place < element_count g
pos_within g block place grid lt within = mul-add-lt (col_of_block g block * g.bcols + place / block_height g block) g.rows (row_of_block g block * g.brows + place % block_height g block) g.cols (col_inside g block place grid lt within) (row_inside g block place grid lt)

row_of_pos : (g : Grid) (block place : ℕ) → IsGrid g → block < block_count g → row_of g (pos_of g block place) ≡ row_of_block g block * g.brows + place % block_height g block
row_of_pos g block place grid lt = mod-mul-add (col_of_block g block * g.bcols + place / block_height g block) g.rows (row_of_block g block * g.brows + place % block_height g block) (row_inside g block place grid lt)

col_of_pos : (g : Grid) (block place : ℕ) → IsGrid g → block < block_count g → col_of g (pos_of g block place) ≡ col_of_block g block * g.bcols + place / block_height g block
col_of_pos g block place grid lt = div-mul-add (col_of_block g block * g.bcols + place / block_height g block) g.rows (row_of_block g block * g.brows + place % block_height g block) (row_inside g block place grid lt)

-- the block and the place by the row and the column of a position
block_by : (g : Grid) (pos row col above before : ℕ) → row_of g pos ≡ row → col_of g pos ≡ col → row / g.brows ≡ above → col / g.bcols ≡ before → block_of g pos ≡ before * block_rows g + above
block_by g pos row col above before a b c d = cc

place_by : (g : Grid) (pos row col block above before : ℕ) → row_of g pos ≡ row → col_of g pos ≡ col → block_of g pos ≡ block → row % g.brows ≡ above → col % g.bcols ≡ before → place_in_block g pos ≡ before * block_height g block + above
place_by g pos row col block above before a b c d e = cc

pub block_back : (g : Grid) (block place : ℕ) → IsGrid g → block < block_count g → place < block_size g block → block_of g (pos_of g block place) ≡ block
block_back g block place grid lt within =
    block_by g (pos_of g block place) (row_of_block g block * g.brows + place % block_height g block) (col_of_block g block * g.bcols + place / block_height g block) (row_of_block g block) (col_of_block g block)
    (row_of_pos g block place grid lt)
    (col_of_pos g block place grid lt)
    (number_piece g.rows g.brows (row_of_block g block) (place % block_height g block) (place_row g block place grid lt))
    (number_piece g.cols g.bcols (col_of_block g block) (place / block_height g block) (place_col g block place grid lt within))
    ∙ div-add-mod' block (block_rows g)

pub place_back : (g : Grid) (block place : ℕ) → IsGrid g → block < block_count g → place < block_size g block → place_in_block g (pos_of g block place) ≡ place
place_back g block place grid lt within =
    place_by g (pos_of g block place) (row_of_block g block * g.brows + place % block_height g block) (col_of_block g block * g.bcols + place / block_height g block) block (place % block_height g block) (place / block_height g block)
    (row_of_pos g block place grid lt)
    (col_of_pos g block place grid lt)
    (block_back g block place grid lt within)
    (number_place g.rows g.brows (row_of_block g block) (place % block_height g block) (place_row g block place grid lt))
    (number_place g.cols g.bcols (col_of_block g block) (place / block_height g block) (place_col g block place grid lt within))
    ∙ div-add-mod' place (block_height g block)

-- the steps to a position fit
pub pos_small : (g : Grid) (block place : ℕ) → IsGrid g → block < block_count g → place < block_size g block → (col_of_block g block * g.bcols + place / block_height g block < 2 ^ 63) × ((col_of_block g block * g.bcols + place / block_height g block) * g.rows < 2 ^ 63) × (pos_of g block place < 2 ^ 63)
pos_small g block place grid lt within =
    let inside = pos_within g block place grid lt within in
    let beside = mul-le (col_of_block g block * g.bcols + place / block_height g block) 1 (col_of_block g block * g.bcols + place / block_height g block) g.rows (omega arith) grid.rows in
    (omega (arith, inside, beside, grid.few), omega (arith, inside, grid.few), omega (arith, inside, grid.few))
