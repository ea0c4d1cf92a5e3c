use Rattle.dd_meaning.proofs.ValuesLemmas.{unwritten_stays}
use Rattle.dd_meaning.proofs.laws.unwritten_values_stay.Goals as goal

pub returns : goal.returns
returns c = unwritten_stays
