-- The columns that are left are those before a place, and the others are taken into the rows from there on.
use Rattle.std.proofs.Common.{◌≡◌, ◌-◌, length, take}
use Rattle.dd_kernels.specs.Packed.{packed, lower_pairs}
use Rattle.dd_packed.proofs.ColumnsLemmas.{before}
use Rattle.dd_packed.proofs.ProductLemmas.{ProductFrom}
use Rattle.dd_packed.proofs.product.trmv.Given as goal

abbrev pub invariant-loop-below : goal.invariant-loop-below
invariant-loop-below l = record {
  columns : l.columns ≡ take (before (λ c. length l.fn.x - c) (length l.fn.x - l.below)) l.l;
  product : ProductFrom (packed (lower_pairs (length l.fn.x)) l.l) l.fn.x (length l.fn.x - l.below) l.x;
}
