-- The elements of some accesses, one after the other.
use Rattle.std.proofs.Common.{◌≡◌, ℕ, ◌+◌, ◌*◌, ◌<◌, ◌≤◌, List, length, get_or, take, arith}
use Rattle.std.specs.List.{All, sum_by}
use Rattle.std.proofs.lemmas.List.Sums.{sum_by_more}
use Rattle.dd_views.specs.declared.shape.Shape.{Shape}
use Rattle.dd_views.specs.IndexList.{index_list}
use Rattle.dd_views.specs.Views.{IsView, IsViewOf}
use Rattle.dd_blocks.specs.declared.access_row.AccessRow.{AccessRow}
use Rattle.dd_blocks.specs.Limits.{elements_limit}
use Rattle.dd_touch.specs.Small.{IsSmallAccess}

-- so many elements have the first accesses
abbrev pub AreCounted : List AccessRow → ℕ → ℕ → Type 0
AreCounted accesses i count = (count ≡ sum_by (λ (a : AccessRow). length (index_list a.view)) (take i accesses)) × (count ≤ i * elements_limit)

pub view_at : (accesses : List AccessRow) (i : ℕ) (d : AccessRow) → i < length accesses → All IsSmallAccess accesses → IsView (get_or accesses i d).view
view_at accesses i d lt small = let at = small i d lt in (at.0, at.1)

pub counted_more : (accesses : List AccessRow) (i : ℕ) (d : AccessRow) (count len : ℕ) → i < length accesses → All IsSmallAccess accesses → AreCounted accesses i count
    → len ≡ length (index_list (get_or accesses i d).view) → ((shape : Shape) → IsViewOf shape (get_or accesses i d).view → len ≤ shape.rows * shape.cols) → AreCounted accesses (i + 1) (count + len)
counted_more accesses i d count len lt small so_far is few =
    let at = small i d lt in
    let here : len ≤ elements_limit = omega (arith, few at.0 at.1, at.2) in
    (omega (arith, sum_by_more (λ (a : AccessRow). length (index_list a.view)) accesses i d lt, so_far.0, is), omega (arith, so_far.1, here))
