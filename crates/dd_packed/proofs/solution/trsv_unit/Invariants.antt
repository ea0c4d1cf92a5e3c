-- The columns that are left are those from the place on, and the elements before it are solved.
use Rattle.std.proofs.Common.{◌≡◌, ◌+◌, ◌-◌, length, drop}
use Rattle.dd_kernels.specs.Lists.{element}
use Rattle.dd_kernels.specs.Packed.{packed, strictly_lower_pairs}
use Rattle.dd_packed.proofs.ColumnsLemmas.{before}
use Rattle.dd_packed.proofs.SolutionLemmas.{SolvedUpTo}
use Rattle.dd_packed.proofs.solution.trsv_unit.Given as goal

abbrev pub invariant-loop-j : goal.invariant-loop-j
invariant-loop-j l = record {
  columns : l.columns ≡ drop (before (λ c. length l.fn.x - (c + 1)) l.j) l.p;
  solved : SolvedUpTo (packed (strictly_lower_pairs (length l.fn.x)) l.p) (element l.fn.x) l.j l.x;
}
