-- The columns so far are those of the whole result, and the others stay.
use Rattle.std.proofs.Common.{◌≡◌, ◌*◌, take, drop}
use Rattle.dd_kernels.specs.Lists.{element}
use Rattle.dd_kernels.specs.Matrices.{entry, matrix}
use Rattle.dd_kernels.specs.Packed.{packed, strictly_lower_pairs, solved}
use Rattle.dd_packed.proofs.solution.trsm_unit.Given as goal

abbrev pub invariant-loop-j : goal.invariant-loop-j
invariant-loop-j l = record {
  front : take (l.j * l.rows) l.x ≡ matrix l.rows l.j (λ i j. element (solved (packed (strictly_lower_pairs l.rows) l.p) (λ r. entry l.fn.shape l.fn.x r j) l.rows) i);
  rest : drop (l.j * l.rows) l.x ≡ drop (l.j * l.rows) l.fn.x;
}
