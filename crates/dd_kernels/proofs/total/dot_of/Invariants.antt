-- `sum` is the sum so far.
use Rattle.std.proofs.Common.{◌≡◌, ◌*ℤ◌}
use Rattle.dd_kernels.specs.Lists.{wrapped, element, sum_below}
use Rattle.dd_kernels.proofs.total.dot_of.Given as goal

abbrev pub invariant-loop-i : goal.invariant-loop-i
invariant-loop-i l = l.sum ≡ wrapped (sum_below l.i (λ i. element l.y i *ℤ element l.z i))
