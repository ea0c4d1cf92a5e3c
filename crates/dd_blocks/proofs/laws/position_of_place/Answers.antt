use Rattle.dd_blocks.proofs.GridLemmas.{pos_within, block_back, place_back}
use Rattle.dd_blocks.proofs.laws.position_of_place.Goals as goal

pub returns : goal.returns
returns c = λ g block place grid lt within. (pos_within g block place grid lt within, block_back g block place grid lt within, place_back g block place grid lt within)
