-- Insertion of each element in turn sorts a list.
use Rattle.std.proofs.Common.{◌≡◌, ℕ, zero, suc, ◌<◌, ℤ, Bool, true, false, cond, List, [], ◌∷◌, length, int_lt, slice_index_or, add-one, refl, ◌∙◌, arith}
use Rattle.std.specs.List.Sorted.{IsSorted, IsPermutation}
use Rattle.std.specs.Ordering.{int_cmp}
use Rattle.std.proofs.lemmas.List.Sorted.{IsPermutation-refl, IsPermutation-sym, IsPermutation-trans, IsPermutation-cons, IsPermutation-middle}
use Rattle.std.proofs.lemmas.Int.{ints}
use Rattle.dd_kernels.specs.Lists.{insert_rising, rising}
use Rattle.dd_kernels.proofs.RisingLemmas.{lt_is}

by_test : (b : Bool) (P : Bool → Type 0) → ((b ≡ true) → P true) → ((b ≡ false) → P false) → P b
by_test true P if_so if_not = if_so refl
by_test false P if_so if_not = if_not refl

-- no element is less than the one before it
abbrev Rises : List ℤ → Type 0
Rises [] = Unit {0}
Rises (x ∷ []) = Unit {0}
Rises (x ∷ y ∷ ys) = (int_lt y x ≡ false) × Rises (y ∷ ys)

not_both : (x y : ℤ) → int_lt y x ≡ true → int_lt x y ≡ false
not_both x y less = grind (arith, ints)

insertion_rises : (x : ℤ) (ys : List ℤ) → Rises ys → Rises (insert_rising x ys)
insertion_rises x [] up = tt
insertion_rises x (y ∷ []) up =
    by_test (int_lt y x) (λ b. Rises (cond b (y ∷ x ∷ []) (x ∷ y ∷ []))) (λ less. (not_both x y less, tt)) (λ not. (not, tt))
insertion_rises x (y ∷ z ∷ zs) up =
    let rest = insertion_rises x (z ∷ zs) up.1 in
    by_test (int_lt y x) (λ b. Rises (cond b (y ∷ insert_rising x (z ∷ zs)) (x ∷ y ∷ z ∷ zs))) (λ less. by_test (int_lt z x) (λ b. Rises (cond b (z ∷ insert_rising x zs) (x ∷ z ∷ zs)) → Rises (y ∷ cond b (z ∷ insert_rising x zs) (x ∷ z ∷ zs))) (λ _ later. (up.0, later)) (λ _ later. (not_both x y less, later)) rest) (λ not. (not, up))

all_rise : (xs : List ℤ) → Rises (rising xs)
all_rise [] = tt
all_rise (x ∷ xs) = insertion_rises x (rising xs) (all_rise xs)

at_next : (xs : List ℤ) → Rises xs → (k : ℕ) (d : ℤ) → suc k < length xs → int_lt (slice_index_or xs (suc k) d) (slice_index_or xs k d) ≡ false
at_next [] up k d below = absurd (omega arith)
at_next (x ∷ []) up k d below = absurd (omega arith)
at_next (x ∷ y ∷ ys) up zero d below = up.0
at_next (x ∷ y ∷ ys) up (suc k) d below = at_next (y ∷ ys) up.1 k d (omega arith)

pub rising_sorted : (xs : List ℤ) → IsSorted int_cmp (rising xs)
rising_sorted xs k d low below =
    let ys = rising xs in
    rw add-one (lt_is (slice_index_or ys (suc k) d) (slice_index_or ys k d) ∙ at_next ys (all_rise xs) k d (omega arith))

insertion_moves : (x : ℤ) (ys : List ℤ) → IsPermutation (x ∷ ys) (insert_rising x ys)
insertion_moves x [] = IsPermutation-refl (x ∷ [])
insertion_moves x (y ∷ ys) =
    let past = IsPermutation-sym (y ∷ x ∷ ys) (x ∷ y ∷ ys) (IsPermutation-middle (y ∷ []) x ys) in
    by_test (int_lt y x) (λ b. IsPermutation (x ∷ y ∷ ys) (cond b (y ∷ insert_rising x ys) (x ∷ y ∷ ys))) (λ _. IsPermutation-trans (x ∷ y ∷ ys) (y ∷ x ∷ ys) (y ∷ insert_rising x ys) past (IsPermutation-cons y (x ∷ ys) (insert_rising x ys) (insertion_moves x ys))) (λ _. IsPermutation-refl (x ∷ y ∷ ys))

pub rising_moves : (xs : List ℤ) → IsPermutation xs (rising xs)
rising_moves [] = IsPermutation-refl []
rising_moves (x ∷ xs) =
    IsPermutation-trans (x ∷ xs) (x ∷ rising xs) (insert_rising x (rising xs)) (IsPermutation-cons x xs (rising xs) (rising_moves xs)) (insertion_moves x (rising xs))
