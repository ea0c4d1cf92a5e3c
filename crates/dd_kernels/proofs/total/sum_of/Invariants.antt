-- `sum` is the sum of the blocks so far.
use Rattle.std.proofs.Common.{◌≡◌, ◌*◌}
use Rattle.dd_kernels.specs.Lists.{wrapped, element, sum_below}
use Rattle.dd_kernels.proofs.total.sum_of.Given as goal

abbrev pub invariant-loop-k : goal.invariant-loop-k
invariant-loop-k l = l.sum ≡ wrapped (sum_below (32 * l.k) (element l.y))
