-- `sum` is the sum so far.
use Rattle.std.proofs.Common.{◌≡◌}
use Rattle.dd_kernels.specs.Lists.{wrapped, element, sum_below}
use Rattle.dd_print.proofs.sum.sum_of.Given as goal

abbrev pub invariant-loop-value : goal.invariant-loop-value
invariant-loop-value l = l.sum ≡ wrapped (sum_below l.value-index (element l.values))
