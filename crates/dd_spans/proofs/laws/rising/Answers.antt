use Rattle.dd_spans.proofs.NumbersLemmas.{contains_rising, rising_contains, rising_rises}
use Rattle.dd_spans.proofs.laws.rising.Goals as goal

pub returns : goal.returns
returns c = λ ns. (rising_rises ns, λ n. (contains_rising ns n, rising_contains ns n))
