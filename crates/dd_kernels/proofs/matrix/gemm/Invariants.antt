-- The columns so far are those of the whole result, and the others stay.
use Rattle.std.proofs.Common.{◌≡◌, ◌+◌, ◌*◌, ◌+ℤ◌, ◌*ℤ◌, take, drop}
use Rattle.dd_kernels.specs.Lists.{wrapped, element, sum_below}
use Rattle.dd_kernels.specs.Matrices.{matrix}
use Rattle.dd_kernels.proofs.matrix.gemm.Given as goal

abbrev pub invariant-loop-j : goal.invariant-loop-j
invariant-loop-j l =
    (take (l.j * l.rows) l.c ≡ matrix l.rows l.j (λ i j. wrapped (element l.fn.c (j * l.rows + i) +ℤ sum_below l.inner (λ q. element l.a (q * l.rows + i) *ℤ element l.b (j * l.inner + q))))) × (drop (l.j * l.rows) l.c ≡ drop (l.j * l.rows) l.fn.c)
