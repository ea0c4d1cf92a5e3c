-- Packed triangles by their columns.
use Rattle.std.proofs.Common.{◌≡◌, ◌≢◌, ℕ, zero, suc, ◌+◌, ◌-◌, ◌*◌, ◌<◌, ◌≤◌, ℤ, pos, List, [], ◌∷◌, ◌++◌, map, length, take, drop, append_assoc, inl, inr, add-one, refl, ap, sym, ◌∙◌, arith}
use Rattle.std.specs.List.{flat_map, range_with_len}
use Rattle.std.proofs.lemmas.Bool.{cases_lt}
use Rattle.std.proofs.lemmas.Bool.Decides.{nat_tests}
use Rattle.std.proofs.lemmas.List.{get_or-drop, get_or-take, drop-drop, take_all, append-nil, map-append, length-take}
use Rattle.std.proofs.lemmas.Simd.{map-map}
use Rattle.std.proofs.lemmas.List.FromFn.{length-map-range_with_len, get_or-map-range_with_len}
use Rattle.std.proofs.lemmas.Slice.{take-put_mid}
use borrow.Rule.Slice.PartMut.{put_mid}
use Rattle.dd_kernels.specs.Lists.{element, tabulate}
use Rattle.dd_kernels.specs.Packed.{packed, lower_pairs, strictly_lower_pairs}
use Rattle.dd_kernels.proofs.ListsLemmas.{ap2, tabulated_whole}
use Rattle.dd_kernels.proofs.MatricesLemmas.{length_tabulate}

-- the rows of a column, and some columns of a triangle: column j has `width j` rows from `top j` on
abbrev pub column_pairs : (ℕ → ℕ) → (ℕ → ℕ) → ℕ → List (ℕ × ℕ)
column_pairs top width j = map (λ i. (i, j)) (range_with_len (top j) (width j))

abbrev pub columns : (ℕ → ℕ) → (ℕ → ℕ) → ℕ → ℕ → List (ℕ × ℕ)
columns top width c k = flat_map (column_pairs top width) (range_with_len c k)

-- how many places there are before column j
abbrev pub before : (ℕ → ℕ) → ℕ → ℕ
before width zero = 0
before width (suc j) = before width j + width j

pub before_more : (width : ℕ → ℕ) (j : ℕ) → before width (j + 1) ≡ before width j + width j
before_more width j = rw add-one

-- the first pair is the one that is looked for, or isn't
found : (r c i j : ℕ) (x : ℤ) (ps : List (ℕ × ℕ)) (xs : List ℤ) → r ≡ i → c ≡ j → packed ((r, c) ∷ ps) (x ∷ xs) i j ≡ x
found r c i j x ps xs row column = grind (arith, nat_tests)

other_row : (r c i j : ℕ) (x : ℤ) (ps : List (ℕ × ℕ)) (xs : List ℤ) → r ≢ i → packed ((r, c) ∷ ps) (x ∷ xs) i j ≡ packed ps xs i j
other_row r c i j x ps xs row = grind (arith, nat_tests)

other_column : (r c i j : ℕ) (x : ℤ) (ps : List (ℕ × ℕ)) (xs : List ℤ) → c ≢ j → packed ((r, c) ∷ ps) (x ∷ xs) i j ≡ packed ps xs i j
other_column r c i j x ps xs column = grind (arith, nat_tests)

none_left : (ps : List (ℕ × ℕ)) (i j : ℕ) → packed ps [] i j ≡ pos 0
none_left [] i j = refl
none_left (p ∷ ps) i j = refl

element_later : (x : ℤ) (xs : List ℤ) (s i : ℕ) → s < i → element (x ∷ xs) (i - s) ≡ element xs (i - (s + 1))
element_later x xs s i past =
    let next : i - s ≡ suc (i - (s + 1)) = omega arith in
    ap (element (x ∷ xs)) next

-- a pair of the first column
in_column : (s k c i : ℕ) (ps : List (ℕ × ℕ)) (xs : List ℤ) → s ≤ i → i < s + k → packed (map (λ r. (r, c)) (range_with_len s k) ++ ps) xs i c ≡ element xs (i - s)
in_column s zero c i ps xs low high = absurd (omega arith)
in_column s (suc k) c i ps [] low high = refl
in_column s (suc k) c i ps (x ∷ xs) low high =
    elim (cases_lt s i) [
      | inl past ↦ other_row s c i c x (map (λ r. (r, c)) (range_with_len (s + 1) k) ++ ps) xs (omega arith) ∙ (in_column (s + 1) k c i ps xs (omega arith) (omega arith) ∙ sym (element_later x xs s i past))
      | inr here ↦ let at : i - s ≡ zero = omega arith in found s c i c x (map (λ r. (r, c)) (range_with_len (s + 1) k) ++ ps) xs (omega arith) refl ∙ sym (ap (element (x ∷ xs)) at)
    ]

-- a pair of a later column
past_column : (s k c i j : ℕ) (ps : List (ℕ × ℕ)) (xs : List ℤ) → c ≢ j → packed (map (λ r. (r, c)) (range_with_len s k) ++ ps) xs i j ≡ packed ps (drop k xs) i j
past_column s zero c i j ps xs other = refl
past_column s (suc k) c i j ps [] other = sym (none_left ps i j)
past_column s (suc k) c i j ps (x ∷ xs) other =
    other_column s c i j x (map (λ r. (r, c)) (range_with_len (s + 1) k) ++ ps) xs other ∙ past_column (s + 1) k c i j ps xs other

-- the element for a pair stands as far behind its column's first as the row behind the column's first row
pub place_of : (top width : ℕ → ℕ) (c k i j : ℕ) (xs : List ℤ) → c ≤ j → j < c + k → top j ≤ i → i < top j + width j → packed (columns top width c k) (drop (before width c) xs) i j ≡ element xs (before width j + (i - top j))
place_of top width c zero i j xs low high above within = absurd (omega arith)
place_of top width c (suc k) i j xs low high above within =
    elim (cases_lt c j) [
      | inl past ↦ let other : c ≢ j = omega arith in past_column (top c) (width c) c i j (columns top width (c + 1) k) (drop (before width c) xs) other ∙ (ap (λ (l : List ℤ). packed (columns top width (c + 1) k) l i j) (drop-drop (width c) (before width c) xs ∙ rw add-one) ∙ place_of top width (c + 1) k i j xs (omega arith) (omega arith) above within)
      | inr here ↦ let same : j ≡ c = omega arith in
          let above_c = rw same at above in
          let within_c = rw same at within in
          rw same (in_column (top c) (width c) c i (columns top width (c + 1) k) (drop (before width c) xs) above_c within_c ∙ get_or-drop (before width c) xs (i - top c) (pos 0))
    ]

-- all pairs of the triangles, from their first column on
pub lower_place : (n i j : ℕ) (l : List ℤ) → j ≤ i → i < n → packed (lower_pairs n) l i j ≡ element l (before (λ c. n - c) j + (i - j))
lower_place n i j l above within = place_of (λ c. c) (λ c. n - c) 0 n i j l (omega arith) (omega arith) above (omega arith)

pub strict_place : (n i j : ℕ) (p : List ℤ) → j < i → i < n → packed (strictly_lower_pairs n) p i j ≡ element p (before (λ c. n - (c + 1)) j + (i - (j + 1)))
strict_place n i j p above within = place_of (λ c. c + 1) (λ c. n - (c + 1)) 0 n i j p (omega arith) (omega arith) (omega arith) (omega arith)

-- how many places the first columns have
pub lower_before : (n j : ℕ) → j ≤ n → 2 * before (λ c. n - c) j + j * j ≡ j * (2 * n + 1)
lower_before n zero within = omega arith
lower_before n (suc j) within = omega (arith, lower_before n j (omega arith))

pub strict_before : (n j : ℕ) → j ≤ n → 2 * before (λ c. n - (c + 1)) j + j * j + j ≡ 2 * j * n
strict_before n zero within = omega arith
strict_before n (suc j) within = omega (arith, strict_before n j (omega arith))

pub upper_before : (n : ℕ) → 2 * before (λ c. c) n + n ≡ n * n
upper_before zero = omega arith
upper_before (suc n) = omega (arith, upper_before n)

-- whole triangles
pub lower_whole : (n k : ℕ) → 2 * k ≡ n * (n + 1) → before (λ c. n - c) n ≡ k
lower_whole n k whole = omega (arith, lower_before n n (omega arith))

pub strict_whole : (n k : ℕ) → 2 * k + n ≡ n * n → before (λ c. n - (c + 1)) n ≡ k
strict_whole n k whole = omega (arith, strict_before n n (omega arith))

-- a column ends before the triangle does
pub before_le : (width : ℕ → ℕ) (j k : ℕ) → j ≤ k → before width j ≤ before width k
before_le width j zero le = let none : j ≡ 0 = omega arith in rw none (omega arith)
before_le width j (suc k) le =
    elim (cases_lt j (k + 1)) [
      | inl below ↦ omega (arith, before_le width j k (omega arith))
      | inr same ↦ let at : j ≡ suc k = omega arith in rw at (omega arith)
    ]

-- each column lies within its triangle
pub lower_fits : (n j k : ℕ) → j < n → 2 * k ≡ n * (n + 1) → before (λ c. n - c) j + (n - j) ≤ k
lower_fits n j k within whole = omega (arith, before_le (λ c. n - c) (suc j) n within, lower_whole n k whole)

pub strict_fits : (n j k : ℕ) → j < n → 2 * k + n ≡ n * n → before (λ c. n - (c + 1)) j + (n - (j + 1)) ≤ k
strict_fits n j k within whole = omega (arith, before_le (λ c. n - (c + 1)) (suc j) n within, strict_whole n k whole)

-- the part of a packed list that is a column of its triangle
pub strict_column : (n j t : ℕ) (p column : List ℤ) → column ≡ take (n - (j + 1)) (drop (before (λ c. n - (c + 1)) j) p) → j < n → t < n - (j + 1) → element column t ≡ packed (strictly_lower_pairs n) p (j + 1 + t) j
strict_column n j t p column is within below =
    let start : ℕ = before (λ c. n - (c + 1)) j in
    let at : start + t ≡ start + (j + 1 + t - (j + 1)) = omega arith in
    ap (λ (l : List ℤ). element l t) is ∙ (get_or-take (n - (j + 1)) (drop start p) t (pos 0) below ∙ (get_or-drop start p t (pos 0) ∙ (ap (element p) at ∙ sym (strict_place n (j + 1 + t) j p (omega arith) (omega arith)))))

pub lower_column : (n j t : ℕ) (l column : List ℤ) → column ≡ drop (before (λ c. n - c) j) (take (before (λ c. n - c) (j + 1)) l) → j < n → t < n - j → element column t ≡ packed (lower_pairs n) l (j + t) j
lower_column n j t l column is within below =
    let start : ℕ = before (λ c. n - c) j in
    let end : ℕ = before (λ c. n - c) (j + 1) in
    let width : end ≡ start + (n - j) = before_more (λ c. n - c) j in
    let at : start + t ≡ start + (j + t - j) = omega arith in
    ap (λ (c : List ℤ). element c t) is ∙ (get_or-drop start (take end l) t (pos 0) ∙ (get_or-take end l (start + t) (pos 0) (omega arith) ∙ (ap (element l) at ∙ sym (lower_place n (j + t) j l (omega arith) (omega arith)))))

-- the columns that are left when the last ones are gone
pub lower_all : (n : ℕ) (l : List ℤ) → 2 * length l ≡ n * (n + 1) → l ≡ take (before (λ c. n - c) (n - 0)) l
lower_all n l whole =
    let none : n - 0 ≡ n = omega arith in
    rw none (sym (take_all (before (λ c. n - c) n) l (omega (arith, lower_whole n (length l) whole))))

pub lower_left : (n b : ℕ) (l left : List ℤ) → b < n → 2 * length l ≡ n * (n + 1) → left ≡ take (before (λ c. n - c) (b + 1)) l → length left ≡ before (λ c. n - c) b + (n - b)
lower_left n b l left within whole is =
    omega (arith, ap length is, length-take (before (λ c. n - c) (b + 1)) l, before_more (λ c. n - c) b, lower_fits n b (length l) within whole)

-- one column more, at the end
columns_next : (top width : ℕ → ℕ) (c k j : ℕ) → c + k ≡ j → columns top width c (suc k) ≡ columns top width c k ++ column_pairs top width j
columns_next top width c zero j at =
    let first : c ≡ j = omega arith in
    append-nil (column_pairs top width c) ∙ ap (column_pairs top width) first
columns_next top width c (suc k) j at =
    ap (λ (ps : List (ℕ × ℕ)). column_pairs top width c ++ ps) (columns_next top width (c + 1) k j (omega arith)) ∙ sym (append_assoc (column_pairs top width c) (columns top width (c + 1) k) (column_pairs top width j))

pub columns_more : (top width : ℕ → ℕ) (j : ℕ) → columns top width 0 (j + 1) ≡ columns top width 0 j ++ column_pairs top width j
columns_more top width j = rw add-one (columns_next top width 0 j j (omega arith))

-- the values for the pairs of a column
pub map_column : (top width : ℕ → ℕ) (g : ℕ × ℕ → ℤ) (j : ℕ) → map g (column_pairs top width j) ≡ tabulate (width j) (λ t. g (top j + t, j))
map_column top width g j =
    let f : ℕ → ℤ = λ i. g (i, j) in
    let all = map f (range_with_len (top j) (width j)) in
    map-map g (λ (i : ℕ). (i, j)) (range_with_len (top j) (width j)) ∙ (tabulated_whole (λ t. f (top j + t)) all (λ i below. get_or-map-range_with_len f (top j) (width j) i (top j + i) (pos 0) (omega (arith, length-map-range_with_len f (top j) (width j))) (omega arith)) ∙ ap (λ (n : ℕ). tabulate n (λ t. f (top j + t))) (length-map-range_with_len f (top j) (width j)))

-- one column more of a triangle that is written column by column
pub triangle_more : (top width : ℕ → ℕ) (g : ℕ × ℕ → ℤ) (j start end k : ℕ) (xs ys : List ℤ) → start ≡ before width j → end ≡ start + width j → end ≤ length xs → k ≡ width j → ys ≡ tabulate (width j) (λ t. g (top j + t, j)) → take start xs ≡ map g (columns top width 0 j) → take end (put_mid start k xs ys) ≡ map g (columns top width 0 (j + 1))
triangle_more top width g j start end k xs ys begins ends within long column so_far =
    let size = ap length column ∙ length_tabulate (width j) (λ t. g (top j + t, j)) in
    let pairs = columns_more top width j in
    take-put_mid start k xs ys end (omega arith) (omega arith) ∙ (ap2 ◌++◌ so_far (column ∙ sym (map_column top width g j)) ∙ (sym (map-append g (columns top width 0 j) (column_pairs top width j)) ∙ ap (map g) (sym pairs)))

pub lower_end : (n j k start : ℕ) → j < n → 2 * k ≡ n * (n + 1) → start ≡ before (λ c. n - c) j → start + (n - j) ≤ k
lower_end n j k start within whole is = omega (arith, lower_fits n j k within whole)

-- the place of row j in column i, and where the step to the next column leads
pub row_place : (n j i k place : ℕ) → i < j → j < n → 2 * k + n ≡ n * n → place + i + 1 ≡ before (λ c. n - (c + 1)) i + j → place < k
row_place n j i k place above below whole is = omega (arith, strict_fits n i k (omega arith) whole)

pub row_step : (n j i place step : ℕ) → i < j → j < n → step + i + 1 ≡ n → place + i + 1 ≡ before (λ c. n - (c + 1)) i + j → place + (step - 1) + (i + 1) + 1 ≡ before (λ c. n - (c + 1)) (i + 1) + j
row_step n j i place step above below long is = omega (arith, before_more (λ c. n - (c + 1)) i)

pub row_end : (n j i k place step : ℕ) → i < j → j < n → 2 * k + n ≡ n * n → step + i + 1 ≡ n → place + i + 1 ≡ before (λ c. n - (c + 1)) i + j → place + (step - 1) ≤ k
row_end n j i k place step above below whole long is =
    omega (arith, row_step n j i place step above below long is, strict_fits n (i + 1) k (omega arith) whole)

pub upper_end : (n j k start : ℕ) → j < n → 2 * k + n ≡ n * n → start ≡ before (λ c. c) j → start + j ≤ k
upper_end n j k start within whole is = omega (arith, before_le (λ c. c) (suc j) n within, upper_before n)
