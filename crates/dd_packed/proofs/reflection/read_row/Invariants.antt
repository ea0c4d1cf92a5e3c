-- The place is that of the row in the column at hand, the step that to the next column, longer by one; what is
-- done is the front of the whole row.
use Rattle.std.proofs.Common.{◌≡◌, ◌+◌, ◌-◌, length, take}
use Rattle.dd_kernels.specs.Lists.{tabulate}
use Rattle.dd_kernels.specs.Packed.{packed, strictly_lower_pairs}
use Rattle.dd_packed.proofs.ColumnsLemmas.{before}
use Rattle.dd_packed.proofs.reflection.read_row.Given as goal

abbrev pub invariant-loop-a : goal.invariant-loop-a
invariant-loop-a l = record {
  place : l.place + l.a-index + 1 ≡ before (λ c. l.order - (c + 1)) l.a-index + length l.fn.column;
  step : l.step + l.a-index + 1 ≡ l.order;
  front : take l.a-index l.column ≡ tabulate l.a-index (packed (strictly_lower_pairs l.order) l.p (length l.fn.column));
}
