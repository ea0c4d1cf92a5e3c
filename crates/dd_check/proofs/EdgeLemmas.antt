-- The edges of an array that are neither too short nor too long.
use Rattle.std.proofs.Common.{◌≡◌, ℕ, ◌*◌, ◌≤◌, ℤ, pos, negsuc, true, arith, unsigned_abs}
use Rattle.std.proofs.lemmas.Bool.Decides.{nat_tests}
use Rattle.dd_blocks.specs.Grids.{IsGrid, element_count}
use Rattle.dd_blocks.specs.Limits.{edge_limit}
use Rattle.dd_check.specs.Kinds.{is_edge}
use Rattle.dd_check.specs.Rows.{grid_of}

edge_within : (z : ℤ) → is_edge z ≡ true → (1 ≤ unsigned_abs z) × (unsigned_abs z ≤ edge_limit)
edge_within (pos n) h = grind (arith, nat_tests)
edge_within (negsuc n) h = absurd (cc)

product_within : (m n k : ℕ) → m ≤ k → n ≤ k → m * n ≤ k * k
product_within m n k first second = grind arith

pub edges_small : (rows cols brows bcols : ℤ) → is_edge rows ≡ true → is_edge cols ≡ true → element_count (grid_of rows cols brows bcols) ≤ edge_limit * edge_limit
edges_small rows cols brows bcols r c = product_within _ _ edge_limit (edge_within rows r).1 (edge_within cols c).1

pub edges_grid : (rows cols brows bcols : ℤ) → is_edge rows ≡ true → is_edge cols ≡ true → is_edge brows ≡ true → is_edge bcols ≡ true → IsGrid (grid_of rows cols brows bcols)
edges_grid rows cols brows bcols r c br bc = record {
  rows = (edge_within rows r).0;
  cols = (edge_within cols c).0;
  brows = (edge_within brows br).0;
  bcols = (edge_within bcols bc).0;
  few = let h = edges_small rows cols brows bcols r c in omega (arith, h);
}
