use Rattle.dd_place.proofs.PremisesLemmas.{can_place}
use Rattle.dd_place.proofs.laws.well_formed.Goals as goal

pub returns : goal.returns
returns c = can_place
