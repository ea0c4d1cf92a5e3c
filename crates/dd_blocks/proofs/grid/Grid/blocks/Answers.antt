use Rattle.dd_blocks.proofs.GridLemmas.{blocks_few}
use Rattle.dd_blocks.proofs.SizesLemmas.{sizes_sum}
use Rattle.dd_blocks.proofs.grid.Grid.blocks.Goals as goal

pub returns-clause-sum : goal.returns-clause-sum
returns-clause-sum c = rw (c.block_rows.ensures.value, c.from.ensures, c.div_ceil.ensures) (sizes_sum _ c.requires)

pub returns-clause-few : goal.returns-clause-few
returns-clause-few c = rw (c.block_rows.ensures.value, c.from.ensures, c.div_ceil.ensures) (blocks_few _ c.requires)
