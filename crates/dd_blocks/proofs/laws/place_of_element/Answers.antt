use Rattle.dd_blocks.proofs.PlanElementsLemmas.{place_of_each}
use Rattle.dd_blocks.proofs.laws.place_of_element.Goals as goal

pub returns : goal.returns
returns c = λ plan e laid is. let h = place_of_each plan laid e is in (h.block, h.place, h.back)
