use Rattle.std.proofs.Common.{arith}
use Rattle.dd_blocks.proofs.GridLemmas.{block_back, place_back, pos_small, pos_within}
use Rattle.dd_blocks.proofs.grid.Grid.pos_of.Goals as goal

pub overflow_add-col : goal.overflow_add-col
overflow_add-col c = rw (c.block_rows-block_rows.ensures.value, c.from-2.ensures, c.height-height.ensures.value) (omega (arith, (pos_small _ _ _ c.requires.grid c.requires.block c.requires.place).0))

pub overflow_mul-result : goal.overflow_mul-result
overflow_mul-result c = rw (c.block_rows-block_rows.ensures.value, c.from-2.ensures, c.from-3.ensures, c.height-height.ensures.value) (omega (arith, (pos_small _ _ _ c.requires.grid c.requires.block c.requires.place).1))

pub overflow_add-result : goal.overflow_add-result
overflow_add-result c = rw (c.block_rows-block_rows.ensures.value, c.from.ensures, c.from-2.ensures, c.from-3.ensures, c.height-height.ensures.value) (omega (arith, (pos_small _ _ _ c.requires.grid c.requires.block c.requires.place).2))

pub returns-clause-within : goal.returns-clause-within
returns-clause-within c = rw (c.block_rows-block_rows.ensures.value, c.from.ensures, c.from-2.ensures, c.from-3.ensures, c.height-height.ensures.value) (pos_within _ _ _ c.requires.grid c.requires.block c.requires.place)

pub returns-clause-block : goal.returns-clause-block
returns-clause-block c = rw (c.block_rows-block_rows.ensures.value, c.from.ensures, c.from-2.ensures, c.from-3.ensures, c.height-height.ensures.value) (block_back _ _ _ c.requires.grid c.requires.block c.requires.place)

pub returns-clause-place : goal.returns-clause-place
returns-clause-place c = rw (c.block_rows-block_rows.ensures.value, c.from.ensures, c.from-2.ensures, c.from-3.ensures, c.height-height.ensures.value) (place_back _ _ _ c.requires.grid c.requires.block c.requires.place)
