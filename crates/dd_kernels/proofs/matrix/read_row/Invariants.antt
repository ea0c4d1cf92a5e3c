-- What is done below the place is the front of the whole row, and `place` is where the next element stands.
use Rattle.std.proofs.Common.{◌≡◌, ◌+◌, ◌*◌, take}
use Rattle.dd_kernels.specs.Lists.{element, tabulate}
use Rattle.dd_kernels.proofs.matrix.read_row.Given as goal

abbrev pub invariant-loop-a : goal.invariant-loop-a
invariant-loop-a l =
    (take l.a-index l.column ≡ tabulate l.a-index (λ i. element l.y (i * l.step + l.first))) × (l.place ≡ l.a-index * l.step + l.first)
