-- The elements of a view, and their positions.
use Rattle.std.proofs.Common.{◌≡◌, ◌≢◌, ℕ, ◌+◌, ◌*◌, ◌-◌, ◌/◌, ◌%◌, ◌<◌, ◌≤◌, ◌^◌, true, length, sym, ap, arith}
use Rattle.std.specs.List.{Contains, flat_map}
use Rattle.std.proofs.lemmas.Int.{ints}
use Rattle.std.proofs.lemmas.Nat.{mul-add-lt, div-mul-add, mod-mul-add, div-add-mod'}
use Rattle.dd_views.specs.declared.part.Part.{Part}
use Rattle.dd_views.specs.declared.shape.Shape.{Shape}
use Rattle.dd_views.specs.declared.span3.Span3.{Span3}
use Rattle.dd_views.specs.declared.view.View.{View}
use Rattle.dd_views.specs.IndexList.{index_list, keeps, number_at_place, places, position}
use Rattle.dd_views.specs.Span.{IsSpanIn, number}
use Rattle.dd_views.specs.Views.{IsView, IsViewOf}
use Rattle.dd_views.proofs.SignedLemmas.{size_up}
use Rattle.dd_views.proofs.ColumnsLemmas.{column}
use Rattle.dd_views.proofs.ListsLemmas.{in_range, range_has, in_filter, filter_has, in_map, map_has, in_flat_map, flat_map_has}

-- the element at the row i and the column j, from 1, is kept and is x
pub record IsElement (f : ℕ → ℕ → ℕ) (p : Part) (m n x i j : ℕ) : Type 0 where
  pub row : (1 ≤ i) × (i ≤ m)
  pub col : (1 ≤ j) × (j ≤ n)
  pub kept : keeps p i j ≡ true
  pub is : f i j ≡ x

pub found : (f : ℕ → ℕ → ℕ) (p : Part) (m n x : ℕ) → Contains (flat_map (column f p m) (places n)) x → (i : ℕ) × (j : ℕ) × IsElement f p m n x i j
found f p m n x there =
    let at_col = in_flat_map (column f p m) (places n) x there in
    let j = at_col.0 in
    let at_row = in_map (λ i. f i j) _ x at_col.2 in
    let kept = in_filter (λ i. keeps p i j) (places m) at_row.0 at_row.1 in
    let rows = in_range 1 m at_row.0 kept.0 in
    let cols = in_range 1 n j at_col.1 in
    (at_row.0, j, record { row = (rows.0, omega (arith, rows.1)); col = (cols.0, omega (arith, cols.1)); kept = kept.1; is = at_row.2 })

pub contained : (f : ℕ → ℕ → ℕ) (p : Part) (m n x i j : ℕ) → IsElement f p m n x i j → Contains (flat_map (column f p m) (places n)) x
contained f p m n x i j element =
    rw (sym element.is) (flat_map_has (column f p m) (places n) j (f i j) (range_has 1 n j element.col.0 (omega (arith, element.col.1)))
    (map_has (λ i. f i j) _ i (filter_has (λ i. keeps p i j) (places m) i (range_has 1 m i element.row.0 (omega (arith, element.row.1))) element.kept)))

-- the numbers of a span are from 1 on
pub number_low : (length : ℕ) (s : Span3) (i : ℕ) → IsSpanIn length s → 1 ≤ i → i ≤ s.count → (1 ≤ number_at_place s i) × (number_at_place s i ≤ length)
number_low length s i span low high =
    let inside = span.within (i - 1) (omega arith) in
    let size = size_up (number s (i - 1)) (omega (arith, ints, inside.0)) in
    (omega (arith, ints, size, inside.0), omega (arith, ints, size, inside.1))

-- the row and the column of a position
pub record HasNumbers (v : View) (x i j : ℕ) : Type 0 where
  pub row : number_at_place v.rows i ≡ x % v.height + 1
  pub col : number_at_place v.cols j ≡ x / v.height + 1

pub numbers : (v : View) (x i j : ℕ) → IsView v → IsElement (position v) v.part v.rows.count v.cols.count x i j → HasNumbers v x i j
numbers v x i j view element =
    let r = number_low view.0.rows v.rows i view.1.rows element.row.0 element.row.1 in
    let c = number_low view.0.cols v.cols j view.1.cols element.col.0 element.col.1 in
    let lt : number_at_place v.rows i - 1 < v.height = omega (arith, r.0, r.1, view.1.height) in
    let row : x % v.height ≡ number_at_place v.rows i - 1 = rw (sym element.is) (mod-mul-add (number_at_place v.cols j - 1) v.height (number_at_place v.rows i - 1) lt) in
    let col : x / v.height ≡ number_at_place v.cols j - 1 = rw (sym element.is) (div-mul-add (number_at_place v.cols j - 1) v.height (number_at_place v.rows i - 1) lt) in
    record { row = omega (arith, row, r.0); col = omega (arith, col, c.0) }

pub by_numbers : (v : View) (x i j : ℕ) → HasNumbers v x i j → position v i j ≡ x
by_numbers v x i j has =
    let r : number_at_place v.rows i - 1 ≡ x % v.height = omega (arith, has.row) in
    let c : number_at_place v.cols j - 1 ≡ x / v.height = omega (arith, has.col) in
    rw (r, c) (div-add-mod' x v.height)

-- positions fit
pub position_inside : (shape : Shape) (v : View) (c r : ℕ) → IsViewOf shape v → ((length : ℕ) → IsSpanIn length v.cols → c < length) → ((length : ℕ) → IsSpanIn length v.rows → r < length) → c * v.height + r < shape.rows * shape.cols
position_inside shape v c r view cols rows = omega (arith, mul-add-lt c v.height r shape.cols (cols shape.cols view.cols) (omega (arith, rows shape.rows view.rows, view.height)), ap (λ (h : ℕ). h * shape.cols) view.height)

pub position_small : (v : View) (c r : ℕ) → IsView v → ((length : ℕ) → IsSpanIn length v.cols → c < length) → ((length : ℕ) → IsSpanIn length v.rows → r < length) → c * v.height + r < 2 ^ 63
position_small v c r view cols rows = omega (arith, position_inside view.0 v c r view.1 cols rows, view.1.small)

-- a view without rows has no elements
pub no_rows : (v : View) (x : ℕ) → IsView v → v.height ≡ 0 → ¬ Contains (index_list v) x
no_rows v x view none there =
    let element = found (position v) v.part v.rows.count v.cols.count x there in
    omega (arith, element.2.row.0, element.2.row.1, view.1.height, view.1.rows.few)

pub no_row : (v : View) (x h : ℕ) → h ≡ v.height → IsView v → ((k : ℕ) → 1 ≤ k → k ≤ v.rows.count → number_at_place v.rows k ≢ x % h + 1) → ¬ Contains (index_list v) x
no_row v x h height view none there =
    let element = found (position v) v.part v.rows.count v.cols.count x there in
    none element.0 element.2.row.0 element.2.row.1 (rw height (numbers v x element.0 element.1 view element.2).row)

pub no_col : (v : View) (x h : ℕ) → h ≡ v.height → IsView v → ((k : ℕ) → 1 ≤ k → k ≤ v.cols.count → number_at_place v.cols k ≢ x / h + 1) → ¬ Contains (index_list v) x
no_col v x h height view none there =
    let element = found (position v) v.part v.rows.count v.cols.count x there in
    none element.1 element.2.col.0 element.2.col.1 (rw height (numbers v x element.0 element.1 view element.2).col)

-- the place of a number, and no other
abbrev pub IsOnlyPlace : Span3 → ℕ → ℕ → Type 0
IsOnlyPlace s number i = (1 ≤ i) × (i ≤ s.count) × (number_at_place s i ≡ number) × ((k : ℕ) → 1 ≤ k → k ≤ s.count → number_at_place s k ≡ number → k ≡ i)

pub has_kept : (v : View) (x h i j : ℕ) → h ≡ v.height → IsOnlyPlace v.rows (x % h + 1) i → IsOnlyPlace v.cols (x / h + 1) j → keeps v.part i j ≡ true → Contains (index_list v) x
has_kept v x h i j height row col kept =
    contained (position v) v.part v.rows.count v.cols.count x i j (record {
      row = (row.0, row.1);
      col = (col.0, col.1);
      kept = kept;
      is = by_numbers v x i j (record { row = rw (sym height) row.2; col = rw (sym height) col.2 });
    })

pub kept_has : (v : View) (x h i j : ℕ) → h ≡ v.height → IsView v → IsOnlyPlace v.rows (x % h + 1) i → IsOnlyPlace v.cols (x / h + 1) j → Contains (index_list v) x → keeps v.part i j ≡ true
kept_has v x h i j height view row col there =
    let element = found (position v) v.part v.rows.count v.cols.count x there in
    let at = numbers v x element.0 element.1 view element.2 in
    let same_row = row.3 element.0 element.2.row.0 element.2.row.1 (rw height at.row) in
    let same_col = col.3 element.1 element.2.col.0 element.2.col.1 (rw height at.col) in
    rw (sym same_row, sym same_col) element.2.kept
