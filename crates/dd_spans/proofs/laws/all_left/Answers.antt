use Rattle.dd_spans.proofs.NumbersLemmas.{from_zero}
use Rattle.dd_spans.proofs.laws.all_left.Goals as goal

pub returns : goal.returns
returns c = from_zero
