use Rattle.dd_blocks.proofs.PlanElementsLemmas.{numbers_are}
use Rattle.dd_blocks.proofs.laws.elements_are_numbered.Goals as goal

pub returns : goal.returns
returns c = numbers_are
