-- The columns so far are those of the whole result, and the others stay.
use Rattle.std.proofs.Common.{◌≡◌, ◌-◌, ◌≤◌, ◌+ℤ◌, ◌*ℤ◌, length, map, take, drop}
use Rattle.dd_kernels.specs.Lists.{wrapped, sum_below}
use Rattle.dd_kernels.specs.Matrices.{entry}
use Rattle.dd_kernels.specs.Packed.{packed, lower_pairs}
use Rattle.dd_packed.proofs.ColumnsLemmas.{before, columns}
use Rattle.dd_packed.proofs.square.syrk_packed.Given as goal

abbrev pub invariant-loop-j : goal.invariant-loop-j
invariant-loop-j l = record {
  within : l.start ≤ length l.l;
  place : l.start ≡ before (λ c. l.rows - c) l.j;
  front : take l.start l.l ≡ map (λ at. wrapped (packed (lower_pairs l.rows) l.fn.l at.0 at.1 +ℤ sum_below l.fn.shape.cols (λ q. entry l.fn.shape l.a at.0 q *ℤ entry l.fn.shape l.a at.1 q))) (columns (λ c. c) (λ c. l.rows - c) 0 l.j);
  rest : drop l.start l.l ≡ drop l.start l.fn.l;
}
