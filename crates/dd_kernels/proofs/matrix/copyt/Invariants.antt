-- The columns so far are those of the whole result.
use Rattle.std.proofs.Common.{◌≡◌, ◌+◌, ◌*◌, take}
use Rattle.dd_kernels.specs.Lists.{element}
use Rattle.dd_kernels.specs.Matrices.{matrix}
use Rattle.dd_kernels.proofs.matrix.copyt.Given as goal

abbrev pub invariant-loop-j : goal.invariant-loop-j
invariant-loop-j l = take (l.j * l.rows) l.x ≡ matrix l.rows l.j (λ i j. element l.y (i * l.cols + j))
