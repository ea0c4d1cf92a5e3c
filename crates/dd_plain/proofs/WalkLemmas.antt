-- Positions of a column, one step after the other.
use Rattle.std.proofs.Common.{◌≡◌, ℕ, zero, suc, ◌+◌, ◌-◌, ◌*◌, ◌^◌, ◌%◌, ◌<◌, ◌≤◌, ℤ, pos, negsuc, ◌+ℤ◌, ◌*ℤ◌, List, [], ◌∷◌, ◌++◌, length, map, take, drop, get_or, set, refl, sym, ap, ◌∙◌, arith, unsigned_abs, ⊎_elim}
use Rattle.std.specs.Int.{w64, cast_unsigned}
use Rattle.std.specs.Int.RustNames.{FitsSigned}
use Rattle.std.specs.List.{range_with_len}
use Rattle.std.proofs.lemmas.Int.{ints}
use Rattle.std.proofs.lemmas.Bool.{cases_lt}
use Rattle.std.proofs.lemmas.List.{drop_more, length-append, length-take-le, take-append-drop, append_assoc, map-append}
use Rattle.std.proofs.lemmas.List.FromFn.{map-range_with_len_more}
use Rattle.std.proofs.Math.Nat.{add-mul-mod_self_right, mod-eq_of_lt}
use Rattle.dd_kernels.specs.Lists.{element}
use Rattle.dd_kernels.proofs.ListsLemmas.{ap2}
use Rattle.dd_views.specs.declared.column.Column.{Column}
use Rattle.dd_views.specs.declared.view.View.{View}
use Rattle.dd_views.specs.IndexList.{column_list, columns_from}
use Rattle.dd_views.specs.Positions.{position_in, positions_in, stepped}
use Rattle.dd_views.proofs.PositionsLemmas.{length_positions, positions_of_run}
use Rattle.dd_views.proofs.WalkLemmas.{column_left}
use Rattle.dd_views.proofs.SignedLemmas.{size_up, times_none}
use Rattle.dd_meaning.specs.Steps.{put_at}
use Rattle.dd_plain.specs.Walks.{IsColumnIn}
use Rattle.dd_meaning.proofs.WorldLemmas.{put_append, put_run}

times_more : (i : ℕ) (s : ℤ) → pos (i + 1) *ℤ s ≡ (pos i *ℤ s) +ℤ s
times_more i (pos n) = omega (arith, ints)
times_more zero (negsuc n) = omega (arith, ints)
times_more (suc i) (negsuc n) = omega (arith, ints)

stepped_more : (c : Column) (i : ℕ) → stepped c (i + 1) ≡ stepped c i +ℤ c.step
stepped_more c i = omega (arith, ints, times_more i c.step)

-- one step on, in arithmetic that wraps
step_on : (n m : ℕ) (s : ℤ) → n < 2 ^ 63 → m < 2 ^ 63 → FitsSigned w64 s → pos m ≡ pos n +ℤ s → (n + cast_unsigned w64 s) % 2 ^ 64 ≡ m
step_on n m (pos s) small_n small_m fits e = let same : n + s ≡ m = omega (arith, ints, e) in rw same (mod-eq_of_lt (omega arith))
step_on n m (negsuc s) small_n small_m fits e =
    let same : n ≡ m + suc s = omega (arith, ints, e) in
    let round : n + (2 ^ 64 - suc s) ≡ m + 1 * 2 ^ 64 = omega (arith, small_n) in
    rw round (add-mul-mod_self_right m 1 (2 ^ 64) ∙ mod-eq_of_lt (omega arith))

pub next_position : (size : ℕ) (c : Column) (i at : ℕ) → IsColumnIn size c → FitsSigned w64 c.step → at ≡ position_in c i → i + 1 < c.count → (at + cast_unsigned w64 c.step) % 2 ^ 64 ≡ position_in c (i + 1)
next_position size c i at is fits here more =
    let from = size_up (stepped c i) (is.whole i (omega arith)) in
    let to = size_up (stepped c (i + 1)) (is.whole (i + 1) more) in
    rw here (step_on (position_in c i) (position_in c (i + 1)) c.step (omega (arith, is.small, is.inside i (omega arith))) (omega (arith, is.small, is.inside (i + 1) more)) fits (to ∙ stepped_more c i ∙ ap (λ (z : ℤ). z +ℤ c.step) (sym from)))

pub first_position : (c : Column) → c.first ≡ position_in c 0
first_position c = let same : stepped c 0 ≡ pos c.first = omega (arith, ints, times_none c.step) in sym (ap unsigned_abs same)

-- a column of neighbours
run_at : (c : Column) (i : ℕ) → c.step ≡ pos 1 → position_in c i ≡ c.first + i
run_at c i one = rw one (omega (arith, ints))

pub run_within : (size : ℕ) (c : Column) → IsColumnIn size c → c.step ≡ pos 1 → c.first + c.count ≤ size
run_within size c is one = ⊎_elim
    (λ (some : 0 < c.count). omega (arith, is.inside (c.count - 1) (omega arith), run_at c (c.count - 1) one))
    (λ (none : c.count ≤ 0). omega (arith, is.none (omega arith)))
    (cases_lt 0 c.count)

-- the elements at neighbours
pub elements_run : (values : List ℤ) (a n : ℕ) → a + n ≤ length values → map (element values) (range_with_len a n) ≡ take n (drop a values)
elements_run values a zero within = refl
elements_run values a (suc n) within =
    rw (drop_more values a (pos 0) (omega (arith, within))) (ap (λ l. element values a ∷ l) (elements_run values (a + 1) n (omega (arith, within))))

-- one element more of a column
pub gather_next : (f : ℕ → ℕ) (values front items : List ℤ) (i at : ℕ) (v : ℤ) → items ≡ front ++ map (element values) (map f (range_with_len 0 i)) → at ≡ f i → v ≡ element values at → items ++ v ∷ [] ≡ front ++ map (element values) (map f (range_with_len 0 (i + 1)))
gather_next f values front items i at v so_far here value =
    let more = ap (map (element values)) (map-range_with_len_more f 0 i i (omega arith)) ∙ map-append (element values) (map f (range_with_len 0 i)) (f i ∷ []) in
    let last : v ≡ element values (f i) = value ∙ ap (element values) here in
    ap2 (λ l (x : ℤ). l ++ x ∷ []) so_far last ∙ append_assoc front (map (element values) (map f (range_with_len 0 i))) (element values (f i) ∷ []) ∙ ap (λ l. front ++ l) (sym more)

-- one element less that is left to store
pub store_next : (f : ℕ → ℕ) (from values : List ℤ) (i n at : ℕ) (v : ℤ) → i < n → length from ≡ n → at ≡ f i → v ≡ get_or from i (pos 0) → put_at (map f (range_with_len (i + 1) (n - (i + 1)))) (drop (i + 1) from) (set values at v) ≡ put_at (map f (range_with_len i (n - i))) (drop i from) values
store_next f from values i n at v within long here value =
    let more : n - i ≡ suc (n - (i + 1)) = omega arith in
    let next : drop i from ≡ get_or from i (pos 0) ∷ drop (i + 1) from = drop_more from i (pos 0) (omega (arith, long)) in
    rw (more, next, here, value) refl

-- a column and those behind it
pub column_ahead : (v : View) (j : ℕ) (c : Column) → j < v.cols.count → positions_in c ≡ column_list v (j + 1) → length (columns_from v j) ≡ c.count + length (columns_from v (j + 1))
column_ahead v j c lt value =
    let long : length (column_list v (j + 1)) ≡ c.count = ap length (sym value) ∙ length_positions c in
    ap length (column_left v j lt) ∙ length-append (column_list v (j + 1)) (columns_from v (j + 1)) ∙ ap (λ (n : ℕ). n + length (columns_from v (j + 1))) long

-- one column less that is left to store
pub column_stored : (v : View) (j : ℕ) (c : Column) (rest values : List ℤ) → j < v.cols.count → positions_in c ≡ column_list v (j + 1) → length rest ≡ length (columns_from v j) → put_at (columns_from v (j + 1)) (drop c.count rest) (put_at (positions_in c) (take c.count rest) values) ≡ put_at (columns_from v j) rest values
column_stored v j c rest values lt value long =
    let enough : c.count ≤ length rest = omega (arith, long, column_ahead v j c lt value) in
    sym (put_append (positions_in c) (columns_from v (j + 1)) (take c.count rest) (drop c.count rest) values (length_positions c ∙ sym (length-take-le c.count rest enough)))
    ∙ ap (λ ps. put_at ps (take c.count rest ++ drop c.count rest) values) (ap (λ l. l ++ columns_from v (j + 1)) value ∙ sym (column_left v j lt))
    ∙ ap (λ l. put_at (columns_from v j) l values) (take-append-drop c.count rest)

-- neighbours are written as one piece
pub run_stored : (c : Column) (from values : List ℤ) → c.step ≡ pos 1 → length from ≡ c.count → c.first + c.count ≤ length values → take c.first values ++ from ++ drop (c.first + length from) values ≡ put_at (positions_in c) from values
run_stored c from values one long within =
    sym (ap (λ ps. put_at ps from values) (positions_of_run c one ∙ ap (range_with_len c.first) (sym long)) ∙ put_run from values c.first (omega (arith, long, within)))
