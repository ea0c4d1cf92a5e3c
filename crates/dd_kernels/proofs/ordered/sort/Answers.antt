use Rattle.dd_kernels.proofs.RisingLemmas.{rising_is}
use Rattle.dd_kernels.proofs.ordered.sort.Goals as goal

pub returns-clause-value : goal.returns-clause-value
returns-clause-value c = rising_is _ _ c.sort_unstable.ensures.permutation c.sort_unstable.ensures.sorted
