-- From the first column of the matrix on, the column has the products of the columns so far added.
use Rattle.std.proofs.Common.{◌≡◌, ◌+◌, ◌<◌, ◌+ℤ◌, ◌*ℤ◌, length}
use Rattle.dd_kernels.specs.Lists.{wrapped, element, tabulate, sum_below}
use Rattle.dd_kernels.specs.Matrices.{entry}
use Rattle.dd_packed.proofs.square.add_products.Given as goal

abbrev pub invariant-loop-q : goal.invariant-loop-q
invariant-loop-q l = record {
  later : 0 < l.q → l.column ≡ tabulate (length l.fn.column) (λ t. wrapped (element l.fn.column t +ℤ sum_below l.q (λ q. entry l.fn.shape l.a (l.j + t) q *ℤ entry l.fn.shape l.a l.j q)));
  first : l.q ≡ 0 → l.column ≡ l.fn.column;
}
