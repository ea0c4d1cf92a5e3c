-- No position stands twice in a view.
use Rattle.std.proofs.Common.{◌≡◌, ◌≢◌, ℕ, zero, suc, ◌+◌, ◌*◌, ◌-◌, ◌<◌, ◌≤◌, List, [], ◌∷◌, ◌++◌, map, refl, sym, ◌∙◌, arith, unsigned_abs, ⊎_elim, subst}
use Rattle.std.specs.List.{AllPairs, Contains, flat_map, range_with_len}
use Rattle.std.proofs.lemmas.Int.{ints}
use Rattle.std.proofs.lemmas.List.Elements.{All-contains_itself, Contains-append_cases}
use Rattle.std.proofs.lemmas.List.Kept.{AllPairs-cons, AllPairs-filter}
use Rattle.dd_views.specs.declared.span3.Span3.{Span3}
use Rattle.dd_views.specs.declared.view.View.{View}
use Rattle.dd_views.specs.IndexList.{column_list, index_list, keeps, kept_rows, number_at_place, places, position}
use Rattle.dd_views.specs.Span.{IsSpanIn, number}
use Rattle.dd_views.specs.Views.{IsView}
use Rattle.dd_views.proofs.SignedLemmas.{step_cases, times_up, times_down, size_up, size_pos}
use Rattle.dd_views.proofs.WayLemmas.{exact}
use Rattle.dd_views.proofs.ListsLemmas.{has_head, has_tail, in_range, range_has, in_filter, in_map, in_flat_map}
use Rattle.dd_views.proofs.ElementsLemmas.{IsElement, numbers}

-- no number of the list is equal to a later one
abbrev pub Once : List ℕ → Type 0
Once xs = AllPairs (λ x y. x ≢ y) xs

once_nil : Once []
once_nil = λ i j d lt within. absurd (omega arith)

once_cons : (x : ℕ) (xs : List ℕ) → ¬ Contains xs x → Once xs → Once (x ∷ xs)
once_cons x xs none once = AllPairs-cons (λ (y z : ℕ). y ≢ z) x xs (λ k d lt e. none (subst (λ (y : ℕ). Contains xs y) (sym e) (All-contains_itself xs k d lt))) once

once_head : (x : ℕ) (xs : List ℕ) → Once (x ∷ xs) → ¬ Contains xs x
once_head x xs once there = once 0 (suc there.0) x (omega arith) (omega (arith, there.1)) (sym there.2)

once_tail : (x : ℕ) (xs : List ℕ) → Once (x ∷ xs) → Once xs
once_tail x xs once = λ i j d lt within. once (suc i) (suc j) d (omega (arith, lt)) (omega (arith, within))

once_range : (a n : ℕ) → Once (range_with_len a n)
once_range a zero = once_nil
once_range a (suc n) = once_cons a (range_with_len (a + 1) n) (λ there. omega (arith, (in_range (a + 1) n a there).0)) (once_range (a + 1) n)

once_map : (f : ℕ → ℕ) (xs : List ℕ) → Once xs → ((x y : ℕ) → Contains xs x → Contains xs y → f x ≡ f y → x ≡ y) → Once (map f xs)
once_map f [] once same = once_nil
once_map f (x ∷ xs) once same = once_cons (f x) (map f xs)
    (λ there.
    let other = in_map f xs (f x) there in
    let equal = same other.0 x (has_tail x other.0 xs other.1) (has_head x x xs refl) other.2 in
    once_head x xs once (subst (λ (y : ℕ). Contains xs y) equal other.1))
    (once_map f xs (once_tail x xs once) (λ y z hy hz e. same y z (has_tail x y xs hy) (has_tail x z xs hz) e))

once_append : (xs ys : List ℕ) → Once xs → Once ys → ((x : ℕ) → Contains xs x → ¬ Contains ys x) → Once (xs ++ ys)
once_append [] ys left right apart = right
once_append (x ∷ xs) ys left right apart = once_cons x (xs ++ ys)
    (λ there. ⊎_elim
    (λ (here : Contains xs x). once_head x xs left here)
    (λ (later : Contains ys x). apart x (has_head x x xs refl) later)
    (Contains-append_cases xs ys x there))
    (once_append xs ys (once_tail x xs left) right (λ y there. apart y (has_tail x y xs there)))

once_flat_map : (f : ℕ → List ℕ) (xs : List ℕ) → Once xs → ((x : ℕ) → Contains xs x → Once (f x)) → ((x y z : ℕ) → Contains xs x → Contains xs y → Contains (f x) z → Contains (f y) z → x ≡ y) → Once (flat_map f xs)
once_flat_map f [] once each same = once_nil
once_flat_map f (x ∷ xs) once each same = once_append (f x) (flat_map f xs)
    (each x (has_head x x xs refl))
    (once_flat_map f xs (once_tail x xs once) (λ y there. each y (has_tail x y xs there)) (λ y z w hy hz. same y z w (has_tail x y xs hy) (has_tail x z xs hz)))
    (λ z here there.
    let other = in_flat_map f xs z there in
    let equal = same other.0 x z (has_tail x other.0 xs other.1) (has_head x x xs refl) other.2 here in
    once_head x xs once (subst (λ (y : ℕ). Contains xs y) equal other.1))

-- a span lists no number twice
span_once : (length : ℕ) (s : Span3) (i k : ℕ) → IsSpanIn length s → 1 ≤ i → i ≤ s.count → 1 ≤ k → k ≤ s.count → number_at_place s i ≡ number_at_place s k → i ≡ k
span_once length s i k span low_i high_i low_k high_k same =
    let size_i = size_up (number s (i - 1)) (omega (arith, ints, (span.within (i - 1) (omega arith)).0)) in
    let size_k = size_up (number s (k - 1)) (omega (arith, ints, (span.within (k - 1) (omega arith)).0)) in
    let ways : (i - 1) * unsigned_abs s.step ≡ (k - 1) * unsigned_abs s.step = ⊎_elim
    (λ up. omega (arith, ints, size_i, size_k, same, times_up (i - 1) s.step up, times_up (k - 1) s.step up))
    (λ down. omega (arith, ints, size_i, size_k, same, times_down (i - 1) s.step down, times_down (k - 1) s.step down))
    (step_cases s.step span.steps) in
    let stride = size_pos s.step span.steps in
    let at_i = exact (i - 1) (unsigned_abs s.step) ((k - 1) * unsigned_abs s.step) stride ways in
    let at_k = exact (k - 1) (unsigned_abs s.step) ((k - 1) * unsigned_abs s.step) stride refl in
    omega (arith, at_i, at_k)

-- the element at a row that a column keeps
kept_element : (v : View) (x i j : ℕ) → Contains (places v.cols.count) j → Contains (kept_rows v j) i → position v i j ≡ x → IsElement (position v) v.part v.rows.count v.cols.count x i j
kept_element v x i j at_col at_row is =
    let kept = in_filter (λ i. keeps v.part i j) (places v.rows.count) i at_row in
    let rows = in_range 1 v.rows.count i kept.0 in
    let cols = in_range 1 v.cols.count j at_col in
    record { row = (rows.0, omega (arith, rows.1)); col = (cols.0, omega (arith, cols.1)); kept = kept.1; is = is }

one_row : (v : View) (i k j : ℕ) → IsView v → Contains (places v.cols.count) j → Contains (kept_rows v j) i → Contains (kept_rows v j) k → position v i j ≡ position v k j → i ≡ k
one_row v i k j view at_col at_i at_k same =
    let here = kept_element v (position v k j) i j at_col at_i same in
    let there = kept_element v (position v k j) k j at_col at_k refl in
    let row_i = (numbers v (position v k j) i j view here).row in
    let row_k = (numbers v (position v k j) k j view there).row in
    span_once view.0.rows v.rows i k view.1.rows here.row.0 here.row.1 there.row.0 there.row.1 (row_i ∙ sym row_k)

one_col : (v : View) (j k x : ℕ) → IsView v → Contains (places v.cols.count) j → Contains (places v.cols.count) k → Contains (column_list v j) x → Contains (column_list v k) x → j ≡ k
one_col v j k x view at_j at_k in_j in_k =
    let row_j = in_map (λ i. position v i j) (kept_rows v j) x in_j in
    let row_k = in_map (λ i. position v i k) (kept_rows v k) x in_k in
    let here = kept_element v x row_j.0 j at_j row_j.1 row_j.2 in
    let there = kept_element v x row_k.0 k at_k row_k.1 row_k.2 in
    let col_j = (numbers v x row_j.0 j view here).col in
    let col_k = (numbers v x row_k.0 k view there).col in
    span_once view.0.cols v.cols j k view.1.cols here.col.0 here.col.1 there.col.0 there.col.1 (col_j ∙ sym col_k)

once_there : (v : View) (j : ℕ) → IsView v → Contains (places v.cols.count) j → Once (column_list v j)
once_there v j view at_col = once_map (λ i. position v i j) (kept_rows v j) (AllPairs-filter (λ (x y : ℕ). x ≢ y) (λ i. keeps v.part i j) (places v.rows.count) (once_range 1 v.rows.count)) (λ i k at_i at_k same. one_row v i k j view at_col at_i at_k same)

pub once_view : (v : View) → IsView v → Once (index_list v)
once_view v view = once_flat_map (column_list v) (places v.cols.count) (once_range 1 v.cols.count)
    (λ j at_col. once_there v j view at_col)
    (λ j k x at_j at_k in_j in_k. one_col v j k x view at_j at_k in_j in_k)

-- nor in a column, whose number is from 0
pub once_column : (v : View) (j : ℕ) → IsView v → j < v.cols.count → Once (column_list v (j + 1))
once_column v j view lt = once_there v (j + 1) view (range_has 1 v.cols.count (j + 1) (omega arith) (omega (arith, lt)))
