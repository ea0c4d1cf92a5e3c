-- `sum` is the start with the sum so far.
use Rattle.std.proofs.Common.{◌≡◌, ◌+ℤ◌}
use Rattle.dd_kernels.specs.Lists.{wrapped, element, sum_below}
use Rattle.dd_kernels.proofs.total.add_all.Given as goal

abbrev pub invariant-loop-a : goal.invariant-loop-a
invariant-loop-a l = l.sum ≡ wrapped (l.start +ℤ sum_below l.a-index (element l.y))
