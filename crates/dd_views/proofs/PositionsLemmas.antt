-- A column of a view by its first position and its step.
use Rattle.std.proofs.Common.{◌≡◌, ◌≢◌, ℕ, zero, suc, ◌+◌, ◌*◌, ◌-◌, ◌%◌, ◌<◌, ◌≤◌, ◌^◌, ℤ, pos, negsuc, ◌+ℤ◌, ◌*ℤ◌, ◌≤ℤ◌, ◌∷◌, length, map, refl, sym, ap, ◌∙◌, arith, unsigned_abs, w64, ⊎_elim}
use Rattle.std.specs.Int.{cast_unsigned}
use Rattle.std.specs.List.{range_with_len}
use Rattle.std.proofs.lemmas.Bool.{cases_eq}
use Rattle.std.proofs.lemmas.Int.{ints}
use Rattle.std.proofs.lemmas.List.{map-id}
use Rattle.std.proofs.lemmas.List.FromFn.{length-map-range_with_len}
use Rattle.dd_views.specs.declared.column.Column.{Column}
use Rattle.dd_views.specs.declared.shape.Shape.{Shape}
use Rattle.dd_views.specs.declared.span3.Span3.{Span3}
use Rattle.dd_views.specs.declared.view.View.{View}
use Rattle.dd_views.specs.Columns.{first_row, row_count}
use Rattle.dd_views.specs.IndexList.{column_list, number_at_place, position}
use Rattle.dd_views.specs.Positions.{position_in, positions_in, stepped}
use Rattle.dd_views.specs.Span.{number}
use Rattle.dd_views.specs.Views.{IsView, IsViewOf}
use Rattle.dd_views.proofs.SignedLemmas.{size_up, step_cases, times_up, times_down}
use Rattle.dd_views.proofs.ColumnsLemmas.{kept_run, passes_run}
use Rattle.dd_views.proofs.ElementsLemmas.{number_low, position_inside}
use Rattle.dd_views.proofs.ViewLemmas.{is_square}

map_ranges : (f g : ℕ → ℕ) (a b n : ℕ) → ((i : ℕ) → i < n → f (a + i) ≡ g (b + i)) → map f (range_with_len a n) ≡ map g (range_with_len b n)
map_ranges f g a b zero same = refl
map_ranges f g a b (suc n) same =
    let none_a : a + 0 ≡ a = omega arith in
    let none_b : b + 0 ≡ b = omega arith in
    let head : f a ≡ g b = rw none_a at (rw none_b at (same 0 (omega arith))) in
    rw head (ap (λ xs. g b ∷ xs) (map_ranges f g (a + 1) (b + 1) n (λ i lt.
    let next_a : a + 1 + i ≡ a + suc i = omega arith in
    let next_b : b + 1 + i ≡ b + suc i = omega arith in
    rw (next_a, next_b) (same (suc i) (omega arith)))))

number_from : (s : Span3) (a i : ℕ) → s.step ≢ pos 0 → number s (a + i) ≡ number s a +ℤ pos i *ℤ s.step
number_from s a i steps = ⊎_elim
    (λ up. omega (arith, ints, times_up a s.step up, times_up i s.step up, times_up (a + i) s.step up))
    (λ down. omega (arith, ints, times_down a s.step down, times_down i s.step down, times_down (a + i) s.step down))
    (step_cases s.step steps)

-- both numbers are from 1, and both positions from 0
from_zero : (base m n : ℕ) (way : ℤ) → 1 ≤ m → 1 ≤ n → pos n ≡ pos m +ℤ way → pos (base + (n - 1)) ≡ pos (base + (m - 1)) +ℤ way
from_zero base m n way low_m low_n far = omega (arith, ints)

position_from : (v : View) (r i j : ℕ) → IsView v → 1 ≤ r → r + i ≤ v.rows.count → pos (position v (r + i) j) ≡ pos (position v r j) +ℤ pos i *ℤ v.rows.step
position_from v r i j view low high =
    let here = number_low view.0.rows v.rows r view.1.rows low (omega arith) in
    let there = number_low view.0.rows v.rows (r + i) view.1.rows (omega arith) high in
    let size_here = size_up (number v.rows (r - 1)) (omega (arith, ints, (view.1.rows.within (r - 1) (omega arith)).0)) in
    let size_there = size_up (number v.rows (r + i - 1)) (omega (arith, ints, (view.1.rows.within (r + i - 1) (omega arith)).0)) in
    let next : r + i - 1 ≡ r - 1 + i = omega arith in
    let way : number v.rows (r + i - 1) ≡ number v.rows (r - 1) +ℤ pos i *ℤ v.rows.step = rw next (number_from v.rows (r - 1) i view.1.rows.steps) in
    from_zero _ (number_at_place v.rows r) (number_at_place v.rows (r + i)) _ here.0 there.0 (size_there ∙ way ∙ ap (λ (x : ℤ). x +ℤ pos i *ℤ v.rows.step) (sym size_here))

-- a column by what it keeps, where its place is from 1
pub record IsColumnOf (v : View) (j : ℕ) (c : Column) : Type 0 where
  pub low : 1 ≤ j
  pub high : j ≤ v.cols.count
  pub count : c.count ≡ row_count v.part v.rows.count j
  pub step : c.step ≡ v.rows.step
  pub first : 0 < c.count → c.first ≡ position v (first_row v.part j) j

pub is_column : (v : View) (j : ℕ) (c : Column) → j < v.cols.count → c.count ≡ row_count v.part v.rows.count (j + 1) → c.step ≡ v.rows.step → (0 < c.count → c.first ≡ position v (first_row v.part (j + 1)) (j + 1)) → IsColumnOf v (j + 1) c
is_column v j c lt count step first = record { low = omega arith; high = omega (arith, lt); count = count; step = step; first = first }

-- the rows that it keeps are rows of the view
pub kept_row : (v : View) (j i : ℕ) → IsView v → 1 ≤ j → j ≤ v.cols.count → i < row_count v.part v.rows.count j → (1 ≤ first_row v.part j) × (first_row v.part j + i ≤ v.rows.count)
kept_row v j i view low high lt =
    let run = passes_run v.part v.rows.count j low (λ e. omega (arith, is_square v view e, high)) in
    (run.above, omega (arith, run.below))

row_of : (v : View) (j i : ℕ) (c : Column) → IsView v → IsColumnOf v j c → i < c.count → (1 ≤ first_row v.part j) × (first_row v.part j + i ≤ v.rows.count)
row_of v j i c view is lt =
    kept_row v j i view is.low is.high (omega (arith, is.count))

pub stepped_is : (v : View) (j i : ℕ) (c : Column) → IsView v → IsColumnOf v j c → i < c.count → stepped c i ≡ pos (position v (first_row v.part j + i) j)
stepped_is v j i c view is lt =
    let row = row_of v j i c view is lt in
    rw (is.first (omega arith), is.step) (sym (position_from v (first_row v.part j) i j view row.0 row.1))

pub position_is : (v : View) (j i : ℕ) (c : Column) → IsView v → IsColumnOf v j c → i < c.count → position_in c i ≡ position v (first_row v.part j + i) j
position_is v j i c view is lt = ap unsigned_abs (stepped_is v j i c view is lt)

pub positions_are : (v : View) (j : ℕ) (c : Column) → IsView v → IsColumnOf v j c → positions_in c ≡ column_list v j
positions_are v j c view is =
    let kept = kept_run v.part v.rows.count j is.low (λ e. omega (arith, is_square v view e, is.high)) in
    let walked = map_ranges (position_in c) (λ i. position v i j) 0 (first_row v.part j) c.count (λ i lt. let none : 0 + i ≡ i = omega arith in rw none (position_is v j i c view is lt)) in
    walked ∙ ap (λ (n : ℕ). map (λ i. position v i j) (range_with_len (first_row v.part j) n)) is.count ∙ ap (map (λ i. position v i j)) (sym kept)

pub whole_position : (v : View) (j i : ℕ) (c : Column) → IsView v → IsColumnOf v j c → i < c.count → pos 0 ≤ℤ stepped c i
whole_position v j i c view is lt = rw (stepped_is v j i c view is lt) (omega (arith, ints))

pub position_within : (shape : Shape) (v : View) (j i : ℕ) (c : Column) → IsViewOf shape v → IsColumnOf v j c → i < c.count → position_in c i < shape.rows * shape.cols
position_within shape v j i c view is lt =
    let row = row_of v j i c (shape, view) is lt in
    rw (position_is v j i c (shape, view) is lt) (position_inside shape v (number_at_place v.cols j - 1) (number_at_place v.rows (first_row v.part j + i) - 1) view
    (λ length span. let at = number_low length v.cols j span is.low is.high in omega (arith, at.0, at.1))
    (λ length span. let at = number_low length v.rows (first_row v.part j + i) span (omega (arith, row.0)) row.1 in omega (arith, at.0, at.1)))

-- for callers: how long a column is, and a column with the step 1
pub length_positions : (c : Column) → length (positions_in c) ≡ c.count
length_positions c = length-map-range_with_len (position_in c) 0 c.count

pub positions_of_run : (c : Column) → c.step ≡ pos 1 → positions_in c ≡ range_with_len c.first c.count
positions_of_run c one = map_ranges (position_in c) (λ i. i) 0 c.first c.count (λ i lt. let none : 0 + i ≡ i = omega arith in rw (none, one) (omega (arith, ints))) ∙ map-id (range_with_len c.first c.count)

-- such a column is a piece of the array
pub run_within : (c : Column) (n : ℕ) → c.step ≡ pos 1 → (c.count ≡ 0 → c.first ≡ 0) → ((i : ℕ) → i < c.count → position_in c i < n) → c.first + c.count ≤ n
run_within c n one none inside = ⊎_elim
    (λ (e : c.count ≡ 0). omega (arith, none e))
    (λ (some : c.count ≢ 0). let last = rw one at (inside (c.count - 1) (omega arith)) in omega (arith, last))
    (cases_eq c.count 0)

more_steps : (a s : ℤ) (i : ℕ) → a +ℤ pos (i + 1) *ℤ s ≡ (a +ℤ pos i *ℤ s) +ℤ s
more_steps a (pos n) i = omega (arith, ints)
more_steps a (negsuc n) i = omega (arith, ints)

turned : (p : ℕ) (s : ℤ) → p < 2 ^ 64 → pos 0 ≤ℤ (pos p +ℤ s) → unsigned_abs (pos p +ℤ s) < 2 ^ 64 → (p + cast_unsigned w64 s) % 2 ^ 64 ≡ unsigned_abs (pos p +ℤ s)
turned p (pos n) small low high = omega arith
turned p (negsuc n) small low high =
    let size = size_up (pos p +ℤ negsuc n) low in
    omega (arith, ints, size)

-- for callers that go from one position to the next
pub stepped_more : (c : Column) (i : ℕ) → stepped c (i + 1) ≡ stepped c i +ℤ c.step
stepped_more c i = more_steps (pos c.first) c.step i

-- what `wrapping_add_signed` makes of the step
pub step_on : (c : Column) (p i : ℕ) → p < 2 ^ 64 → pos p ≡ stepped c i → pos 0 ≤ℤ stepped c (i + 1) → position_in c (i + 1) < 2 ^ 64 → (p + cast_unsigned w64 c.step) % 2 ^ 64 ≡ position_in c (i + 1)
step_on c p i small here low high =
    let there : stepped c (i + 1) ≡ pos p +ℤ c.step = stepped_more c i ∙ ap (λ (x : ℤ). x +ℤ c.step) (sym here) in
    rw there (turned p c.step small (rw there at low) (rw there at high))
