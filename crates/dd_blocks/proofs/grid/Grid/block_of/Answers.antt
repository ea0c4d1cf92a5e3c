use Rattle.dd_blocks.proofs.GridLemmas.{block_within}
use Rattle.dd_blocks.proofs.grid.Grid.block_of.Goals as goal

pub returns-clause-within : goal.returns-clause-within
returns-clause-within c = rw (c.from-rows.ensures, c.from.ensures, c.from-2.ensures, c.block_rows.ensures.value) (block_within _ _ c.requires.grid c.requires.within)
