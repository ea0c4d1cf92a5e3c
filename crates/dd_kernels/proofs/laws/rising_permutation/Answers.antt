use Rattle.dd_kernels.proofs.RisingLemmas.{rising_is}
use Rattle.dd_kernels.proofs.SortingLemmas.{rising_sorted, rising_moves}
use Rattle.dd_kernels.proofs.laws.rising_permutation.Goals as goal

pub returns : goal.returns
returns c = record { sorted = rising_sorted; permutation = rising_moves; only = rising_is }
