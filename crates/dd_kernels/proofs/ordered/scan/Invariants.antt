-- What is done below the place is the front of the whole result, what is left stays, and `sum` is the sum so far.
use Rattle.std.proofs.Common.{◌≡◌, ◌+◌, take, drop}
use Rattle.dd_kernels.specs.Lists.{wrapped, element, tabulate, sum_below}
use Rattle.dd_kernels.proofs.ordered.scan.Given as goal

abbrev pub invariant-loop-a : goal.invariant-loop-a
invariant-loop-a l =
    (take l.a-index l.x ≡ tabulate l.a-index (λ i. wrapped (sum_below (i + 1) (element l.fn.x)))) × (drop l.a-index l.x ≡ drop l.a-index l.fn.x) × (l.sum ≡ wrapped (sum_below l.a-index (element l.fn.x)))
