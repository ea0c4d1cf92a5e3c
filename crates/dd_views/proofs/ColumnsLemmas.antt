-- What the columns of a part keep.
use Rattle.std.proofs.Common.{◌≡◌, ◌≢◌, ℕ, zero, suc, ◌+◌, ◌*◌, ◌-◌, ◌<◌, ◌≤◌, List, [], ◌∷◌, ◌++◌, length, get_or, take, map, refl, sym, ap, ◌∙◌, arith}
use Rattle.std.specs.List.{filter, flat_map, range_with_len}
use Rattle.std.proofs.lemmas.Bool.Decides.{nat_tests}
use Rattle.std.proofs.lemmas.List.{length-append, length-map, append-nil, get_or-map}
use Rattle.std.proofs.lemmas.List.Concat.{flat_map-append, get_or-flat_map}
use Rattle.std.proofs.lemmas.List.FromFn.{length-range_with_len, get_or-range_with_len}
use Rattle.dd_views.specs.declared.part.Part.{Part}
use Rattle.dd_views.specs.declared.part.Part.TheVariants.{All, Lower, Upper, UnitLower, UnitUpper, Diag}
use Rattle.dd_views.specs.Triangle.{triangle}
use Rattle.dd_views.specs.Columns.{first_row, row_count, elements, size_by}
use Rattle.dd_views.specs.IndexList.{keeps, places}
use Rattle.dd_views.proofs.TriangleLemmas.{triangle_back, triangle_le, triangle_twice}
use Rattle.dd_views.proofs.ListsLemmas.{PassesRun, filter_run, take-range_with_len, range_with_len_more}

-- the rows that a column keeps stand one after the other
pub passes_run : (p : Part) (m j : ℕ) → 1 ≤ j → (p ≢ All → j ≤ m) → PassesRun (λ i. keeps p i j) 1 m (first_row p j) (row_count p m j)
passes_run All m j low high = record { above = omega arith; below = omega arith; low = λ i ge lt. absurd (omega arith); pass = λ i ge lt. refl; high = λ i ge lt. absurd (omega arith) }
passes_run Lower m j low high =
    let le = high (λ e. absurd (cc)) in
    record { above = omega arith; below = omega arith; low = λ i ge lt. grind (arith, nat_tests); pass = λ i ge lt. grind (arith, nat_tests); high = λ i ge lt. absurd (omega arith) }
passes_run Upper m j low high =
    let le = high (λ e. absurd (cc)) in
    record { above = omega arith; below = omega arith; low = λ i ge lt. absurd (omega arith); pass = λ i ge lt. grind (arith, nat_tests); high = λ i ge lt. grind (arith, nat_tests) }
passes_run UnitLower m j low high =
    let le = high (λ e. absurd (cc)) in
    record { above = omega arith; below = omega arith; low = λ i ge lt. grind (arith, nat_tests); pass = λ i ge lt. grind (arith, nat_tests); high = λ i ge lt. absurd (omega arith) }
passes_run UnitUpper m j low high =
    let le = high (λ e. absurd (cc)) in
    record { above = omega arith; below = omega arith; low = λ i ge lt. absurd (omega arith); pass = λ i ge lt. grind (arith, nat_tests); high = λ i ge lt. grind (arith, nat_tests) }
passes_run Diag m j low high =
    let le = high (λ e. absurd (cc)) in
    record { above = omega arith; below = omega arith; low = λ i ge lt. grind (arith, nat_tests); pass = λ i ge lt. grind (arith, nat_tests); high = λ i ge lt. grind (arith, nat_tests) }

pub kept_run : (p : Part) (m j : ℕ) → 1 ≤ j → (p ≢ All → j ≤ m) → filter (λ i. keeps p i j) (places m) ≡ range_with_len (first_row p j) (row_count p m j)
kept_run p m j low high = filter_run _ 1 m (first_row p j) (row_count p m j) (passes_run p m j low high)

-- the elements of a column, and of columns, by what stands at a row and a column
abbrev pub column : (ℕ → ℕ → ℕ) → Part → ℕ → ℕ → List ℕ
column f p m j = map (λ i. f i j) (filter (λ i. keeps p i j) (places m))

pub length_column : (f : ℕ → ℕ → ℕ) (p : Part) (m j : ℕ) → 1 ≤ j → (p ≢ All → j ≤ m) → length (column f p m j) ≡ row_count p m j
length_column f p m j low high = rw (kept_run p m j low high) (length-map _ _ ∙ length-range_with_len _ _)

pub length_columns : (f : ℕ → ℕ → ℕ) (p : Part) (m c : ℕ) → (p ≢ All → c ≤ m) → length (flat_map (column f p m) (range_with_len 1 c)) ≡ elements p m c
length_columns f p m zero high = refl
length_columns f p m (suc c) high =
    let cut = range_with_len_more 1 c in
    let split = flat_map-append (column f p m) (range_with_len 1 c) ((1 + c) ∷ []) in
    let last = length_column f p m (1 + c) (omega arith) (λ e. omega (arith, high e)) in
    let before = length_columns f p m c (λ e. omega (arith, high e)) in
    let one : 1 + c ≡ suc c = omega arith in
    let tail : length (flat_map (column f p m) ((1 + c) ∷ [])) ≡ row_count p m (1 + c) = ap length (append-nil (column f p m (1 + c))) ∙ last in
    let sum : length (flat_map (column f p m) (range_with_len 1 c) ++ flat_map (column f p m) ((1 + c) ∷ [])) ≡ elements p m c + row_count p m (1 + c) = omega (arith, length-append (flat_map (column f p m) (range_with_len 1 c)) (flat_map (column f p m) ((1 + c) ∷ [])), tail, before) in
    ap (λ xs. length (flat_map (column f p m) xs)) cut ∙ ap length split ∙ sum ∙ ap (λ (j : ℕ). elements p m c + row_count p m j) one

-- the element at a place of a column
pub at_column : (f : ℕ → ℕ → ℕ) (p : Part) (m n c k : ℕ) → (p ≢ All → n ≤ m) → c < n → k < row_count p m (suc c) → get_or (flat_map (column f p m) (places n)) (elements p m c + k) 0 ≡ f (first_row p (suc c) + k) (suc c)
at_column f p m n c k high lt within =
    let count : c < length (places n) = omega (arith, length-range_with_len 1 n) in
    let one : get_or (places n) c 0 ≡ suc c = get_or-range_with_len 1 n c 0 lt ∙ omega arith in
    let long : k < length (column f p m (get_or (places n) c 0)) = rw one (omega (arith, length_column f p m (suc c) (omega arith) (λ e. omega (arith, high e)))) in
    let before : length (flat_map (column f p m) (take c (places n))) ≡ elements p m c = rw (take-range_with_len 1 n c (omega arith)) (length_columns f p m c (λ e. omega (arith, high e))) in
    let there = get_or-flat_map (column f p m) (places n) c k 0 0 count long in
    let run = kept_run p m (suc c) (omega arith) (λ e. omega (arith, high e)) in
    let inside : k < length (range_with_len (first_row p (suc c)) (row_count p m (suc c))) = omega (arith, length-range_with_len (first_row p (suc c)) (row_count p m (suc c))) in
    ap (λ (i : ℕ). get_or (flat_map (column f p m) (places n)) (i + k) 0) (sym before)
    ∙ there
    ∙ ap (λ (j : ℕ). get_or (column f p m j) k 0) one
    ∙ ap (λ xs. get_or (map (λ i. f i (suc c)) xs) k 0) run
    ∙ get_or-map (λ i. f i (suc c)) _ k 0 0 inside
    ∙ ap (λ (i : ℕ). f i (suc c)) (get_or-range_with_len _ _ k 0 within)

triangle_square : (n : ℕ) → triangle n ≤ n * n
triangle_square zero = omega arith
triangle_square (suc n) = omega (arith, triangle_twice (suc n))

self_le_square : (n : ℕ) → n ≤ n * n
self_le_square zero = omega arith
self_le_square (suc n) = omega arith

-- how many elements the first columns have
pub elements_all : (m c : ℕ) → elements All m c ≡ c * m
elements_all m zero = omega arith
elements_all m (suc c) = omega (arith, elements_all m c)

pub elements_upper : (m c : ℕ) → elements Upper m c ≡ triangle c
elements_upper m zero = refl
elements_upper m (suc c) = omega (arith, elements_upper m c)

pub elements_above : (m c : ℕ) → elements UnitUpper m c ≡ triangle (c - 1)
elements_above m zero = refl
elements_above m (suc c) =
    let e : suc c - 1 ≡ c = omega arith in
    rw e (omega (arith, elements_above m c, triangle_back c))

pub elements_lower : (m c : ℕ) → c ≤ m → elements Lower m c + triangle (m - c) ≡ triangle m
elements_lower m zero le = let e : m - 0 ≡ m = omega arith in rw e (omega arith)
elements_lower m (suc c) le =
    let e : m - c - 1 ≡ m - suc c = omega arith in
    let back = rw e at (triangle_back (m - c)) in
    omega (arith, elements_lower m c (omega arith), back)

pub elements_below : (m c : ℕ) → c ≤ m → elements UnitLower m c + triangle (m - c - 1) ≡ triangle (m - 1)
elements_below m zero le = let e : m - 0 ≡ m = omega arith in rw e (omega arith)
elements_below m (suc c) le =
    let e : m - c - 1 ≡ m - suc c = omega arith in
    let before = rw e at (elements_below m c (omega arith)) in
    omega (arith, before, triangle_back (m - suc c))

pub elements_diag : (m c : ℕ) → elements Diag m c ≡ c
elements_diag m zero = refl
elements_diag m (suc c) = omega (arith, elements_diag m c)

pub elements_size : (p : Part) (m n : ℕ) → (p ≢ All → m ≡ n) → elements p m n ≡ size_by p m n
elements_size All m n square = omega (arith, elements_all m n)
elements_size Upper m n square = elements_upper m n
elements_size UnitUpper m n square = elements_above m n
elements_size Lower m n square =
    let e : m ≡ n = square (λ e. absurd (cc)) in
    let none : n - n ≡ 0 = omega arith in
    rw e (let all = rw none at (elements_lower n n (omega arith)) in omega (arith, all))
elements_size UnitLower m n square =
    let e : m ≡ n = square (λ e. absurd (cc)) in
    let none : n - n - 1 ≡ 0 = omega arith in
    rw e (let all = rw none at (elements_below n n (omega arith)) in omega (arith, all))
elements_size Diag m n square = elements_diag m n

-- a part keeps no more than all
pub size_le : (p : Part) (m n : ℕ) → (p ≢ All → m ≡ n) → size_by p m n ≤ m * n
size_le All m n square = omega arith
size_le Upper m n square = let e : m ≡ n = square (λ e. absurd (cc)) in rw e (triangle_square n)
size_le Lower m n square = let e : m ≡ n = square (λ e. absurd (cc)) in rw e (triangle_square n)
size_le UnitUpper m n square = let e : m ≡ n = square (λ e. absurd (cc)) in rw e (omega (arith, triangle_square n, triangle_le (n - 1) n (omega arith)))
size_le UnitLower m n square = let e : m ≡ n = square (λ e. absurd (cc)) in rw e (omega (arith, triangle_square n, triangle_le (n - 1) n (omega arith)))
size_le Diag m n square = let e : m ≡ n = square (λ e. absurd (cc)) in rw e (self_le_square n)
