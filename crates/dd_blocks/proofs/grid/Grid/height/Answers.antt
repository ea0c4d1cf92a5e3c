use Rattle.dd_blocks.proofs.GridLemmas.{begins_row, height_some}
use Rattle.dd_blocks.proofs.grid.Grid.height.Goals as goal

pub piece_len-requires : goal.piece_len-requires
piece_len-requires c = rw c.block_rows.ensures.value (begins_row _ _ c.requires.grid c.requires.within)

pub returns-clause-some : goal.returns-clause-some
returns-clause-some c = rw (c.piece_len.ensures, c.block_rows.ensures.value) (height_some _ _ c.requires.grid c.requires.within)
