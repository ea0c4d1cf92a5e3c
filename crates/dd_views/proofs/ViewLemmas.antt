-- A view by its columns.
use Rattle.std.proofs.Common.{◌≡◌, ◌≢◌, ℕ, zero, suc, ◌+◌, ◌*◌, ◌-◌, ◌<◌, ◌≤◌, ◌^◌, length, get_or, ap, ◌∙◌, arith, ⊎_elim}
use Rattle.std.specs.List.{flat_map}
use Rattle.std.proofs.lemmas.Bool.{cases_lt}
use Rattle.std.proofs.lemmas.Nat.{mul-le}
use Rattle.dd_views.specs.declared.part.Part.{Part}
use Rattle.dd_views.specs.declared.part.Part.TheVariants.{All, Lower, Upper, UnitLower, UnitUpper, Diag}
use Rattle.dd_views.specs.declared.place.Place.{Place}
use Rattle.dd_views.specs.declared.shape.Shape.{Shape}
use Rattle.dd_views.specs.declared.view.View.{View}
use Rattle.dd_views.specs.Columns.{first_row, row_count, elements, size_by}
use Rattle.dd_views.specs.IndexList.{index_list, places, position}
use Rattle.dd_views.specs.Places.{StandsAt}
use Rattle.dd_views.specs.Span.{IsSmallSpan}
use Rattle.dd_views.specs.Triangle.{triangle}
use Rattle.dd_views.specs.Views.{IsView, IsViewOf}
use Rattle.dd_views.proofs.TriangleLemmas.{triangle_lt}
use Rattle.dd_views.proofs.ColumnsLemmas.{column, passes_run, at_column, length_columns, elements_size, elements_all, elements_upper, elements_above, elements_lower, elements_below, elements_diag, size_le}

pub is_square : (v : View) → IsView v → v.part ≢ All → v.rows.count ≡ v.cols.count
is_square v view part = view.1.square part

pub length_view : (v : View) → IsView v → length (index_list v) ≡ size_by v.part v.rows.count v.cols.count
length_view v view =
    length_columns (position v) v.part v.rows.count v.cols.count (λ e. omega (arith, is_square v view e))
    ∙ elements_size v.part v.rows.count v.cols.count (is_square v view)

-- the element at the place i stands in the column and the row, from 1
pub record InColumn (p : Part) (m n i row col : ℕ) : Type 0 where
  pub col_low : 1 ≤ col
  pub col_high : col ≤ n
  pub row_low : first_row p col ≤ row
  pub row_high : row < first_row p col + row_count p m col
  pub index : elements p m (col - 1) + row ≡ i + first_row p col

pub in_column : (p : Part) (m n i : ℕ) (place : Place) → StandsAt p m i place → i < size_by p m n → (p ≢ All → m ≡ n) → InColumn p m n i place.row place.col
in_column All m n i place stands lt square = record {
  col_low = stands.3;
  col_high = ⊎_elim (λ (l : n < place.col). absurd (omega (arith, stands.0, stands.1, mul-le n m (place.col - 1) m (omega arith) (omega arith)))) (λ (g : place.col ≤ n). g) (cases_lt n place.col);
  row_low = stands.1;
  row_high = omega (arith, stands.2);
  index = omega (arith, stands.0, elements_all m (place.col - 1));
}
in_column Upper m n i place stands lt square =
    let few = triangle_lt (place.col - 1) n (omega (arith, stands.0, stands.1)) in
    record {
      col_low = omega (arith, stands.1, stands.2);
      col_high = omega (arith, few);
      row_low = stands.1;
      row_high = omega (arith, stands.2);
      index = omega (arith, stands.0, elements_upper m (place.col - 1));
    }
in_column UnitUpper m n i place stands lt square =
    let few = triangle_lt (place.col - 2) (n - 1) (omega (arith, stands.0, stands.1)) in
    let e : place.col - 1 - 1 ≡ place.col - 2 = omega arith in
    record {
      col_low = omega (arith, stands.1, stands.2);
      col_high = omega (arith, few);
      row_low = stands.1;
      row_high = omega (arith, stands.2);
      index = omega (arith, stands.0, elements_above m (place.col - 1), ap triangle e);
    }
in_column Lower m n i place stands lt square =
    let same : m ≡ n = square (λ e. absurd (cc)) in
    let e : m - (place.col - 1) ≡ m + 1 - place.col = omega (arith, stands.3) in
    record {
      col_low = stands.3;
      col_high = omega (arith, stands.1, stands.2);
      row_low = stands.1;
      row_high = omega (arith, stands.1, stands.2);
      index = omega (arith, stands.0, elements_lower m (place.col - 1) (omega (arith, stands.1, stands.2)), ap triangle e);
    }
in_column UnitLower m n i place stands lt square =
    let same : m ≡ n = square (λ e. absurd (cc)) in
    let e : m - (place.col - 1) - 1 ≡ m - place.col = omega (arith, stands.3) in
    record {
      col_low = stands.3;
      col_high = omega (arith, stands.1, stands.2);
      row_low = omega (arith, stands.1);
      row_high = omega (arith, stands.1, stands.2);
      index = omega (arith, stands.0, elements_below m (place.col - 1) (omega (arith, stands.1, stands.2)), ap triangle e);
    }
in_column Diag m n i place stands lt square = record {
  col_low = omega (arith, stands.1);
  col_high = omega (arith, stands.1);
  row_low = omega (arith, stands.0, stands.1);
  row_high = omega (arith, stands.0, stands.1);
  index = omega (arith, stands.0, stands.1, elements_diag m (place.col - 1));
}

pub row_within : (p : Part) (m n i row col : ℕ) → (p ≢ All → m ≡ n) → InColumn p m n i row col → (1 ≤ row) × (row ≤ m)
row_within p m n i row col square there =
    let run = passes_run p m col there.col_low (λ e. omega (arith, square e, there.col_high)) in
    (omega (arith, run.above, there.row_low), omega (arith, run.below, there.row_high))

pub at_view : (f : ℕ → ℕ → ℕ) (p : Part) (m n i row col : ℕ) → (p ≢ All → m ≡ n) → InColumn p m n i row col → f row col ≡ get_or (flat_map (column f p m) (places n)) i 0
at_view f p m n i row col square there =
    let next : suc (col - 1) ≡ col = omega (arith, there.col_low) in
    let first : first_row p (suc (col - 1)) ≡ first_row p col = ap (first_row p) next in
    let count : row_count p m (suc (col - 1)) ≡ row_count p m col = ap (row_count p m) next in
    let k = row - first_row p col in
    let at_row : first_row p (suc (col - 1)) + (row - first_row p col) ≡ row = omega (arith, first, there.row_low) in
    let at_index : elements p m (col - 1) + (row - first_row p col) ≡ i = omega (arith, there.index, there.row_low) in
    let found = at_column f p m n (col - 1) (row - first_row p col) (λ e. omega (arith, square e)) (omega (arith, there.col_low, there.col_high)) (omega (arith, count, there.row_low, there.row_high)) in
    cc

-- what the place of an element asks for
pub few_elements : (v : View) (i : ℕ) → IsView v → i < length (index_list v) → i < size_by v.part v.rows.count v.cols.count
few_elements v i view lt = omega (arith, length_view v view)

pos_factor : (a b : ℕ) → 0 < a * b → 0 < a
pos_factor zero b lt = absurd (omega arith)
pos_factor (suc a) b lt = omega arith

pub small_view : (v : View) (i : ℕ) → IsView v → i < length (index_list v) → (i < 2 ^ 63) × (0 < v.rows.count)
small_view v i view lt =
    let few = few_elements v i view lt in
    let le = size_le v.part v.rows.count v.cols.count (is_square v view) in
    let whole = mul-le v.rows.count v.cols.count view.0.rows view.0.cols view.1.rows.few view.1.cols.few in
    (omega (arith, few, le, whole, view.1.small), pos_factor v.rows.count v.cols.count (omega (arith, few, le)))

-- what a view says of its rows and columns
pub small_rows : (v : View) → IsView v → v.height < 2 ^ 63 → IsSmallSpan v.rows
small_rows v view small = (view.0.rows, omega (arith, view.1.height), view.1.rows)

pub small_cols : (v : View) → IsView v → 0 < v.height → IsSmallSpan v.cols
small_cols v view high = (view.0.cols, omega (arith, view.1.small, view.1.height, mul-le 1 view.0.cols view.0.rows view.0.cols (omega (arith, view.1.height)) (omega arith)), view.1.cols)

pub rows_within : (v : View) → IsView v → v.rows.count ≤ v.height
rows_within v view = omega (arith, view.1.height, view.1.rows.few)

pub view_few : (shape : Shape) (v : View) → IsViewOf shape v → size_by v.part v.rows.count v.cols.count ≤ shape.rows * shape.cols
view_few shape v view = omega (arith, size_le v.part v.rows.count v.cols.count view.square, mul-le v.rows.count v.cols.count shape.rows shape.cols view.rows.few view.cols.few)
