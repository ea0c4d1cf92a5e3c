-- Columns of a view over the array's columns.
use Rattle.std.proofs.Common.{◌≡◌, ◌≢◌, ℕ, ◌+◌, ◌-◌, ◌*◌, ◌/◌, ◌^◌, ◌<◌, ◌≤◌, ℤ, pos, negsuc, List, ◌++◌, length, get_or, sym, ap, ◌∙◌, subst, arith, unsigned_abs, ◌≤ℤ◌, ⊎_elim}
use Rattle.std.specs.List.{Contains}
use Rattle.std.proofs.lemmas.Bool.{cases_lt}
use Rattle.std.proofs.lemmas.Int.{ints}
use Rattle.std.proofs.lemmas.List.{get_or-append-add, get_or_append_left, length-append}
use Rattle.std.proofs.lemmas.List.Elements.{Contains-append_left, Contains-append_right, Contains-get_or}
use Rattle.std.proofs.lemmas.List.FromFn.{get_or-map-range_with_len}
use Rattle.dd_views.specs.declared.column.Column.{Column}
use Rattle.dd_views.specs.declared.view.View.{View}
use Rattle.dd_views.specs.IndexList.{column_list, columns_before, columns_from, index_list, keeps, kept_rows, number_at_place, places, position}
use Rattle.dd_views.specs.Positions.{position_in, positions_in, stepped}
use Rattle.dd_views.specs.Views.{IsView, IsViewOf}
use Rattle.dd_views.proofs.ElementsLemmas.{IsElement, numbers}
use Rattle.dd_views.proofs.ListsLemmas.{in_filter, in_map, in_range}
use Rattle.dd_views.proofs.OnceLemmas.{once_column}
use Rattle.dd_views.proofs.PositionsLemmas.{length_positions}
use Rattle.dd_views.proofs.SignedLemmas.{times_none}
use Rattle.dd_views.proofs.WalkLemmas.{column_done, index_list_at}
use Rattle.dd_blocks.specs.declared.grid.Grid.{Grid}
use Rattle.dd_blocks.specs.Grids.{IsGrid, element_count}
use Rattle.std.specs.Int.{w64, cast_unsigned}
use Rattle.std.specs.Int.RustNames.{FitsSigned}
use Rattle.dd_stamps.specs.declared.piece.Piece.{Piece}
use Rattle.dd_stamps.specs.Columns.{IsColumnIn, place_at}

-- all positions of a view's column are in one column of the array
col_in : (v : View) (j x : ℕ) → IsView v → j < v.cols.count → Contains (column_list v (j + 1)) x → number_at_place v.cols (j + 1) ≡ x / v.height + 1
col_in v j x view lt there =
    let row = in_map (λ i. position v i (j + 1)) (kept_rows v (j + 1)) x there in
    let kept = in_filter (λ i. keeps v.part i (j + 1)) (places v.rows.count) row.0 row.1 in
    let rows = in_range 1 v.rows.count row.0 kept.0 in
    let element : IsElement (position v) v.part v.rows.count v.cols.count x row.0 (j + 1) = record {
      row = (rows.0, omega (arith, rows.1));
      col = (omega arith, omega (arith, lt));
      kept = kept.1;
      is = row.2;
    } in
    (numbers v x row.0 (j + 1) view element).col

-- the element of a column with a number
pub position_listed : (c : Column) (i : ℕ) → i < c.count → get_or (positions_in c) i 0 ≡ position_in c i
position_listed c i lt = get_or-map-range_with_len (position_in c) 0 c.count i i 0 lt (omega arith)

pub position_contained : (v : View) (j i : ℕ) (c : Column) → positions_in c ≡ column_list v (j + 1) → i < c.count → Contains (column_list v (j + 1)) (position_in c i)
position_contained v j i c value lt =
    subst (λ (xs : List ℕ). Contains xs (position_in c i)) value
    (subst (Contains (positions_in c)) (position_listed c i lt) (Contains-get_or (positions_in c) i 0 (omega (arith, length_positions c, lt))))

pub first_is : (c : Column) → position_in c 0 ≡ c.first
first_is c = let same : stepped c 0 ≡ pos c.first = omega (arith, ints, times_none c.step) in ap unsigned_abs same

first_small : (g : Grid) (c : Column) → IsGrid g → position_in c 0 ≡ c.first → (c.count ≡ 0 → c.first ≡ 0) → ((i : ℕ) → i < c.count → position_in c i < element_count g) → c.first < 2 ^ 63
first_small g c grid is none inside = ⊎_elim
    (λ (some : 0 < c.count). omega (arith, is, inside 0 some, grid.few))
    (λ (no : c.count ≤ 0). omega (arith, none (omega arith)))
    (cases_lt 0 c.count)

pub column_in : (g : Grid) (v : View) (j : ℕ) (c : Column) → IsGrid g → IsViewOf (record { rows = g.rows; cols = g.cols }) v → j < v.cols.count
    → positions_in c ≡ column_list v (j + 1) → c.step ≡ v.rows.step → (c.count ≡ 0 → c.first ≡ 0) → ((i : ℕ) → i < c.count → pos 0 ≤ℤ stepped c i)
    → ((i : ℕ) → i < c.count → position_in c i < g.rows * g.cols) → IsColumnIn g c
column_in g v j c grid view lt value step none whole inside =
    let is : IsView v = (record { rows = g.rows; cols = g.cols }, view) in
    record {
      steps = λ e. view.rows.steps (sym step ∙ e);
      small = first_small g c grid (first_is c) none inside;
      whole = whole;
      inside = inside;
      beside = λ i less.
          let here = col_in v j (position_in c i) is lt (position_contained v j i c value less) in
          let there = col_in v j (position_in c 0) is lt (position_contained v j 0 c value (omega (arith, less))) in
          let rows : v.height ≡ g.rows = view.height in
          let both : position_in c i / v.height ≡ position_in c 0 / v.height = omega (arith, here, there) in
          let both' : position_in c i / g.rows ≡ position_in c 0 / g.rows = rw rows at both in
          both' ∙ ap (λ (p : ℕ). p / g.rows) (first_is c);
    }

-- where the elements of a column stand in the view's list
pub column_at : (v : View) (j i : ℕ) (c : Column) → j < v.cols.count → positions_in c ≡ column_list v (j + 1) → i < c.count
    → get_or (index_list v) (length (columns_before v j) + i) 0 ≡ position_in c i
column_at v j i c lt value less =
    let long : length (column_list v (j + 1)) ≡ c.count = ap length (sym value) ∙ length_positions c in
    ap (λ (xs : List ℕ). get_or xs (length (columns_before v j) + i) 0) (index_list_at v j lt)
    ∙ get_or_append_left (columns_before v j ++ column_list v (j + 1)) (columns_from v (j + 1)) 0 (length (columns_before v j) + i) (omega (arith, length-append (columns_before v j) (column_list v (j + 1)), long, less))
    ∙ get_or-append-add (columns_before v j) (column_list v (j + 1)) i 0
    ∙ ap (λ (xs : List ℕ). get_or xs i 0) (sym value)
    ∙ position_listed c i less

-- and that they are in it
pub column_among : (v : View) (j i : ℕ) (c : Column) → j < v.cols.count → positions_in c ≡ column_list v (j + 1) → i < c.count → Contains (index_list v) (position_in c i)
column_among v j i c lt value less =
    subst (λ (xs : List ℕ). Contains xs (position_in c i)) (sym (index_list_at v j lt))
    (Contains-append_left (columns_before v j ++ column_list v (j + 1)) (columns_from v (j + 1)) (position_in c i)
    (Contains-append_right (columns_before v j) (column_list v (j + 1)) (position_in c i) (position_contained v j i c value less)))

-- no two positions of a column are the same
pub column_apart : (v : View) (j : ℕ) (c : Column) (i k : ℕ) → IsView v → j < v.cols.count → positions_in c ≡ column_list v (j + 1) → i < k → k < c.count → position_in c i ≢ position_in c k
column_apart v j c i k view lt value less few e =
    let long : length (column_list v (j + 1)) ≡ c.count = ap length (sym value) ∙ length_positions c in
    let at : (m : ℕ) → m < c.count → get_or (column_list v (j + 1)) m 0 ≡ position_in c m = λ m le. ap (λ (xs : List ℕ). get_or xs m 0) (sym value) ∙ position_listed c m le in
    once_column v j view lt i k 0 less (omega (arith, long, few)) (at i (omega (arith, less, few)) ∙ e ∙ sym (at k few))

-- a step of 1, by its bits
pub one_step : (s : ℤ) → FitsSigned w64 s → cast_unsigned w64 s ≡ 1 → s ≡ pos 1
one_step (pos n) fits one = ap pos one
one_step (negsuc n) fits one = absurd (omega (arith, ints, one, fits))

-- with it the places follow each other
run_position : (c : Column) (i : ℕ) → c.step ≡ pos 1 → position_in c i ≡ c.first + i
run_position c i one = rw one (omega (arith, ints))

pub run_place : (c : Column) (p : Piece) (from i : ℕ) → c.step ≡ pos 1 → from ≤ i → p.low ≤ position_in c from → place_at c p i ≡ place_at c p from + (i - from)
run_place c p from i one le low = omega (arith, run_position c from one, run_position c i one, low)

-- there is room for a column
pub column_room : (v : View) (j : ℕ) (c : Column) → j < v.cols.count → positions_in c ≡ column_list v (j + 1) → length (columns_before v j) + c.count ≤ length (index_list v)
column_room v j c lt value =
    let long : length (column_list v (j + 1)) ≡ c.count = ap length (sym value) ∙ length_positions c in
    omega (arith, long, ap length (index_list_at v j lt), length-append (columns_before v j ++ column_list v (j + 1)) (columns_from v (j + 1)), length-append (columns_before v j) (column_list v (j + 1)))

pub column_ends : (v : View) (j : ℕ) (c : Column) → j < v.cols.count → positions_in c ≡ column_list v (j + 1) → length (columns_before v j) + c.count ≡ length (columns_before v (j + 1))
column_ends v j c lt value =
    let long : length (column_list v (j + 1)) ≡ c.count = ap length (sym value) ∙ length_positions c in
    omega (arith, long, ap length (column_done v j lt), length-append (columns_before v j) (column_list v (j + 1)))
