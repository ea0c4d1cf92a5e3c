use Rattle.std.proofs.Common.{ℕ, zero, suc, ◌*◌, ◌/◌, ◌^◌, ◌<◌, ◌≤◌, arith}
use Rattle.dd_blocks.specs.declared.grid.Grid.{Grid}
use Rattle.dd_blocks.specs.Grids.{IsGrid, block_count, col_of_block}
use Rattle.dd_stamps.proofs.PieceLemmas.{block_left, block_top}
use Rattle.dd_stamps.proofs.piece.window_of.Goals as goal

cols_few : (rows cols : ℕ) → 1 ≤ rows → cols ≤ rows * cols
cols_few zero cols some = absurd (omega arith)
cols_few (suc rows) cols some = omega arith

left_small : (g : Grid) (block : ℕ) → IsGrid g → block < block_count g → col_of_block g block * g.bcols < 2 ^ 63
left_small g block grid few = omega (arith, block_left g block grid few, cols_few g.rows g.cols grid.rows, grid.few)

pub overflow_mul-left : goal.overflow_mul-left
overflow_mul-left c =
    rw (c.from-bcols.ensures, c.from-block_rows.ensures, c.div_ceil.ensures) (omega (arith, left_small c.args.grid.now c.args.block c.requires.grid c.requires.block))

pub overflow_add-result : goal.overflow_add-result
overflow_add-result c =
    let left : c.args.block / c.from-block_rows.result * c.from-bcols.result < 2 ^ 63 = rw (c.from-bcols.ensures, c.from-block_rows.ensures, c.div_ceil.ensures) (left_small c.args.grid.now c.args.block c.requires.grid c.requires.block) in
    omega (arith, left)

pub overflow_sub-rows : goal.overflow_sub-rows
overflow_sub-rows c = rw (c.from-rows.ensures, c.from-block_rows.ensures, c.div_ceil.ensures, c.from.ensures) (omega (arith, block_top c.args.grid.now c.args.block c.requires.grid c.requires.block))
