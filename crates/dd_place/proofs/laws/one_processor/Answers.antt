use Rattle.dd_place.proofs.OneLemmas.{one_placed}
use Rattle.dd_place.proofs.laws.one_processor.Goals as goal

pub returns : goal.returns
returns c = λ plan. one_placed plan.rule plan
