use Rattle.dd_blocks.proofs.GridLemmas.{begins_above, height_at, in_block, position_back}
use Rattle.dd_blocks.proofs.grid.Grid.place_in_block.Goals as goal

pub piece_len-height-requires : goal.piece_len-height-requires
piece_len-height-requires c = rw (c.from-rows.ensures, c.from-brows.ensures) (begins_above _ _ c.requires.grid)

pub returns-clause-value : goal.returns-clause-value
returns-clause-value c = rw (c.from-rows.ensures, c.from-brows.ensures, c.from.ensures, c.piece_len-height.ensures, c.from-rows.ensures, c.from-brows.ensures, height_at _ _ c.requires.grid)

pub returns-clause-within : goal.returns-clause-within
returns-clause-within c = rw (c.from-rows.ensures, c.from-brows.ensures, c.from.ensures, c.piece_len-height.ensures, c.from-rows.ensures, c.from-brows.ensures, height_at _ _ c.requires.grid) (in_block _ _ c.requires.grid c.requires.within)

pub returns-clause-back : goal.returns-clause-back
returns-clause-back c = rw (c.from-rows.ensures, c.from-brows.ensures, c.from.ensures, c.piece_len-height.ensures, c.from-rows.ensures, c.from-brows.ensures, height_at _ _ c.requires.grid) (position_back _ _ c.requires.grid c.requires.within)
