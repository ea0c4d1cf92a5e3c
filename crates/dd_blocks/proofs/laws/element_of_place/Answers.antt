use Rattle.dd_blocks.proofs.PlanElementsLemmas.{element_of_place}
use Rattle.dd_blocks.proofs.laws.element_of_place.Goals as goal

pub returns : goal.returns
returns c = λ plan block place laid within lt. let h = element_of_place plan laid block place within lt in (h.is, h.block_is, h.place_is)
