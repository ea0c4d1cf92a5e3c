-- A rising list of numbers is known by which numbers it contains.
use Rattle.std.proofs.Common.{◌≡◌, ℕ, zero, suc, ◌<◌, ◌⊎◌, inl, inr, ⊎_elim, List, [], ◌∷◌, length, get_or, refl, sym, arith, ap₂}
use Rattle.std.specs.List.{AllPairs, Contains}
use Rattle.std.specs.List.Sorted.{IsStrictlyIncreasing}
use Rattle.std.proofs.lemmas.List.Kept.{AllPairs-from_increasing}
use Rattle.std.proofs.lemmas.List.Elements.{All-contains}

first_or_later : (x : ℕ) (xs : List ℕ) (n : ℕ) → Contains (x ∷ xs) n → (x ≡ n) ⊎ Contains xs n
first_or_later x xs n h = by_place h.0 h.1 h.2
  where
    by_place : (k : ℕ) → k < length (x ∷ xs) → get_or (x ∷ xs) k n ≡ n → (x ≡ n) ⊎ Contains xs n
    by_place zero lt is = inl is
    by_place (suc k) lt is = inr (k, omega arith, is)

first_in : (x : ℕ) (xs : List ℕ) → Contains (x ∷ xs) x
first_in x xs = (0, omega arith, refl)

later_in : (x : ℕ) (xs : List ℕ) (n : ℕ) → Contains xs n → Contains (x ∷ xs) n
later_in x xs n h = (suc h.0, omega (arith, h.1), h.2)

none_in : (n : ℕ) → Contains [] n → ⊥
none_in n h = absurd (omega (arith, h.1))

abbrev Rise : List ℕ → Type 0
Rise xs = AllPairs (λ x y. x < y) xs

abbrev Within : List ℕ → List ℕ → Type 0
Within xs ys = (n : ℕ) → Contains xs n → Contains ys n

below_rest : (x : ℕ) (xs : List ℕ) → Rise (x ∷ xs) → (n : ℕ) → Contains xs n → x < n
below_rest x xs rise n h = All-contains (λ y. x < y) xs n (λ k d lt. rise 0 (suc k) d (omega arith) (omega arith)) h

rest_rises : (x : ℕ) (xs : List ℕ) → Rise (x ∷ xs) → Rise xs
rest_rises x xs rise = λ i j d lt within. rise (suc i) (suc j) d (omega arith) (omega arith)

-- the first number is the least
at_most : (x y : ℕ) (xs ys : List ℕ) → Rise (y ∷ ys) → Within (x ∷ xs) (y ∷ ys) → y < suc x
at_most x y xs ys rise within = ⊎_elim
    (λ (same : y ≡ x). omega arith)
    (λ (later : Contains ys x). let lt : y < x = below_rest y ys rise x later in omega arith)
    (first_or_later y ys x (within x (first_in x xs)))

rest_within : (x y : ℕ) (xs ys : List ℕ) → x ≡ y → Rise (x ∷ xs) → Within (x ∷ xs) (y ∷ ys) → Within xs ys
rest_within x y xs ys same rise within = λ n h. ⊎_elim
    (λ (first : y ≡ n). let lt : x < n = below_rest x xs rise n h in absurd (omega arith))
    (λ (later : Contains ys n). later)
    (first_or_later y ys n (within n (later_in x xs n h)))

one_list : (xs ys : List ℕ) → Rise xs → Rise ys → Within xs ys → Within ys xs → xs ≡ ys
one_list [] [] up down to from = refl
one_list [] (y ∷ ys) up down to from = absurd (none_in y (from y (first_in y ys)))
one_list (x ∷ xs) [] up down to from = absurd (none_in x (to x (first_in x xs)))
one_list (x ∷ xs) (y ∷ ys) up down to from =
    let low : y < suc x = at_most x y xs ys down to in
    let high : x < suc y = at_most y x ys xs up from in
    let same : x ≡ y = omega arith in
    ap₂ (λ (z : ℕ) (zs : List ℕ). z ∷ zs) same
    (one_list xs ys (rest_rises x xs up) (rest_rises y ys down)
    (rest_within x y xs ys same up to) (rest_within y x ys xs (sym same) down from))

pub one_rising : (xs ys : List ℕ) → IsStrictlyIncreasing xs → IsStrictlyIncreasing ys → ((n : ℕ) → Contains xs n → Contains ys n) → ((n : ℕ) → Contains ys n → Contains xs n) → xs ≡ ys
one_rising xs ys up down to from = one_list xs ys (AllPairs-from_increasing xs up) (AllPairs-from_increasing ys down) to from
