use Rattle.dd_place.proofs.leading.first_block.Goals as goal

pub block_with-requires-clause-pos : goal.block_with-requires-clause-pos
block_with-requires-clause-pos c = c.at.ensures.inside _ c.requires.access.view
