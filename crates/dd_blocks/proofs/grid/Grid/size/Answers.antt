use Rattle.dd_blocks.proofs.GridLemmas.{begins_col, size_few, size_some}
use Rattle.dd_blocks.proofs.grid.Grid.size.Goals as goal

pub piece_len-requires : goal.piece_len-requires
piece_len-requires c = rw c.block_rows.ensures.value (begins_col _ _ c.requires.grid c.requires.within)

pub returns-clause-some : goal.returns-clause-some
returns-clause-some c = rw (c.height.ensures.value, c.piece_len.ensures, c.block_rows.ensures.value) (size_some _ _ c.requires.grid c.requires.within)

pub returns-clause-few : goal.returns-clause-few
returns-clause-few c = rw (c.height.ensures.value, c.piece_len.ensures, c.block_rows.ensures.value) (size_few _ _)
