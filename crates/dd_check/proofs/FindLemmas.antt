-- The first of some elements that passes a test, by its place.
use Rattle.std.proofs.Common.{◌≡◌, ℕ, zero, suc, ◌<◌, Bool, true, false, List, [], ◌∷◌, map, length, None, Some, get_or, refl, arith}
use Rattle.std.specs.List.{find, range_with_len}
use Rattle.std.proofs.lemmas.Simd.{map-map}
use Rattle.std.proofs.lemmas.List.FromFn.{length-map-range_with_len, get_or-map-range_with_len}

-- none passes
pub find_none : {X : Type 0} (p : X → Bool) (xs : List X) → ((k : ℕ) (d : X) → k < length xs → p (get_or xs k d) ≡ false) → find p xs ≡ None
find_none p [] none = refl
find_none p (x ∷ xs) none =
    let here : p x ≡ false = none 0 x (omega arith) in
    rw here (find_none p xs (λ k d h. none (suc k) d (omega arith)))

-- the one at i passes, and none before it
pub find_first : {X : Type 0} (p : X → Bool) (xs : List X) (i : ℕ) (d : X) → i < length xs → ((k : ℕ) → k < i → p (get_or xs k d) ≡ false) → p (get_or xs i d) ≡ true → find p xs ≡ Some (get_or xs i d)
find_first p [] i d within before here = absurd (omega arith)
find_first p (x ∷ xs) zero d within before here = rw here refl
find_first p (x ∷ xs) (suc i) d within before here =
    let first : p x ≡ false = before 0 (omega arith) in
    rw first (find_first p xs i d (omega arith) (λ k h. before (suc k) (omega arith)) here)

-- so of what is made of the numbers below n
pub find_none_below : {X : Type 0} (p : X → Bool) (f : ℕ → X) (n : ℕ) → ((k : ℕ) → k < n → p (f k) ≡ false) → find p (map f (range_with_len 0 n)) ≡ None
find_none_below p f n none =
    find_none p (map f (range_with_len 0 n))
    (λ k d h. let within : k < n = omega (arith, length-map-range_with_len f 0 n, h) in
    let e = get_or-map-range_with_len f 0 n k k d within (omega arith) in
    rw e (none k within))

pub find_first_below : {X : Type 0} (p : X → Bool) (f : ℕ → X) (n i : ℕ) → i < n → ((k : ℕ) → k < i → p (f k) ≡ false) → p (f i) ≡ true → find p (map f (range_with_len 0 n)) ≡ Some (f i)
find_first_below p f n i within before here =
    let inside : i < length (map f (range_with_len 0 n)) = omega (arith, length-map-range_with_len f 0 n) in
    let at = λ (k : ℕ) (h : k < n). get_or-map-range_with_len f 0 n k k (f i) h (omega arith) in
    rw (← at i within) (find_first p (map f (range_with_len 0 n)) i (f i) inside
    (λ k h. rw (at k (omega arith)) (before k h))
    (rw (at i within) here))

-- and of what is made of these
pub find_none_of : {X Y : Type 0} (p : Y → Bool) (g : X → Y) (f : ℕ → X) (n : ℕ) → ((k : ℕ) → k < n → p (g (f k)) ≡ false) → find p (map g (map f (range_with_len 0 n))) ≡ None
find_none_of p g f n none = rw map-map (find_none_below p (λ k. g (f k)) n none)

pub find_first_of : {X Y : Type 0} (p : Y → Bool) (g : X → Y) (f : ℕ → X) (n i : ℕ) → i < n → ((k : ℕ) → k < i → p (g (f k)) ≡ false) → p (g (f i)) ≡ true → find p (map g (map f (range_with_len 0 n))) ≡ Some (g (f i))
find_first_of p g f n i within before here = rw map-map (find_first_below p (λ k. g (f k)) n i within before here)
