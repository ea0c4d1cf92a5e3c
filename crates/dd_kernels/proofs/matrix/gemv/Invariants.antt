-- From the first column on `y` has the products with the columns so far added.
use Rattle.std.proofs.Common.{◌≡◌, ◌+◌, ◌*◌, ◌<◌, ◌+ℤ◌, ◌*ℤ◌, length}
use Rattle.dd_kernels.specs.Lists.{wrapped, element, tabulate, sum_below}
use Rattle.dd_kernels.proofs.matrix.gemv.Given as goal

abbrev pub invariant-loop-q : goal.invariant-loop-q
invariant-loop-q l =
    (0 < l.q → l.y ≡ tabulate (length l.fn.y) (λ i. wrapped (element l.fn.y i +ℤ sum_below l.q (λ q. element l.a (q * length l.fn.y + i) *ℤ element l.x q)))) × (l.q ≡ 0 → l.y ≡ l.fn.y)
