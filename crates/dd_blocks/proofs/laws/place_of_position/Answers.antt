use Rattle.dd_blocks.proofs.GridLemmas.{block_within, in_block, position_back}
use Rattle.dd_blocks.proofs.laws.place_of_position.Goals as goal

pub returns : goal.returns
returns c = λ g pos grid lt. (block_within g pos grid lt, in_block g pos grid lt, position_back g pos grid lt)
