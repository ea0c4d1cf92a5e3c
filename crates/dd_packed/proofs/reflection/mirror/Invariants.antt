-- The columns so far are those of the whole result.
use Rattle.std.proofs.Common.{◌≡◌, ◌≤◌, length, map, take}
use Rattle.dd_kernels.specs.Packed.{packed, strictly_lower_pairs}
use Rattle.dd_packed.proofs.ColumnsLemmas.{before, columns}
use Rattle.dd_packed.proofs.reflection.mirror.Given as goal

abbrev pub invariant-loop-j : goal.invariant-loop-j
invariant-loop-j l = record {
  within : l.start ≤ length l.q;
  place : l.start ≡ before (λ c. c) l.j;
  front : take l.start l.q ≡ map (λ at. packed (strictly_lower_pairs l.order) l.p at.1 at.0) (columns (λ c. 0) (λ c. c) 0 l.j);
}
