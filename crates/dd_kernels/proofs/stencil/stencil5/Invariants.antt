-- The columns so far are those of the whole result.
use Rattle.std.proofs.Common.{◌≡◌, ◌+◌, ◌*◌, take}
use Rattle.dd_kernels.specs.Matrices.{bordered, matrix, weighed}
use Rattle.dd_kernels.proofs.stencil.stencil5.Given as goal

abbrev pub invariant-loop-j : goal.invariant-loop-j
invariant-loop-j l =
    take (l.j * l.shape.rows) l.x ≡ matrix l.shape.rows l.j (λ i j. weighed (bordered l.shape l.y i (j + 1)) (bordered l.shape l.y (i + 2) (j + 1)) (bordered l.shape l.y (i + 1) j) (bordered l.shape l.y (i + 1) (j + 2)) (bordered l.shape l.y (i + 1) (j + 1)))
