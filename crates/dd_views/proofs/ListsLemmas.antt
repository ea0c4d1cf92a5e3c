-- Lemmas on lists of places.
use Rattle.std.proofs.Common.{◌≡◌, ℕ, zero, suc, ◌+◌, ◌-◌, ◌<◌, ◌≤◌, Bool, true, false, List, [], ◌∷◌, ◌++◌, length, get_or, take, map, refl, sym, ap, ◌∙◌, arith, ◌⊎◌, inl, inr, ⊎_elim}
use Rattle.std.specs.List.{Contains, filter, flat_map, range_with_len}
use Rattle.std.proofs.lemmas.Bool.{cases_lt, cases_Bool}
use Rattle.std.proofs.lemmas.List.{length-map, get_or-map}
use Rattle.std.proofs.lemmas.List.Elements.{All-contains, All-contains_itself, All-filter, filter_passes, Contains-append_cases, Contains-append_left, Contains-append_right, Contains-get_or}
use Rattle.std.proofs.lemmas.List.FromFn.{length-range_with_len, get_or-range_with_len}

pub take-range_with_len : (a n k : ℕ) → k ≤ n → take k (range_with_len a n) ≡ range_with_len a k
take-range_with_len a n zero le = refl
take-range_with_len a zero (suc k) le = absurd (omega arith)
take-range_with_len a (suc n) (suc k) le = ap (λ xs. a ∷ xs) (take-range_with_len (a + 1) n k (omega arith))

pub range_with_len_more : (a n : ℕ) → range_with_len a (suc n) ≡ range_with_len a n ++ (a + n) ∷ []
range_with_len_more a zero = ap (λ (x : ℕ). x ∷ []) (omega arith)
range_with_len_more a (suc n) = ap (λ xs. a ∷ xs) (rw (range_with_len_more (a + 1) n) (ap (λ (x : ℕ). range_with_len (a + 1) n ++ x ∷ []) (omega arith)))

-- a test that passes just the n numbers from lo on
pub record PassesRun (p : ℕ → Bool) (a m lo n : ℕ) : Type 0 where
  pub above : a ≤ lo
  pub below : lo + n ≤ a + m
  pub low : (i : ℕ) → a ≤ i → i < lo → p i ≡ false
  pub pass : (i : ℕ) → lo ≤ i → i < lo + n → p i ≡ true
  pub high : (i : ℕ) → lo + n ≤ i → i < a + m → p i ≡ false

pub filter_none : (p : ℕ → Bool) (a m : ℕ) → ((i : ℕ) → a ≤ i → i < a + m → p i ≡ false) → filter p (range_with_len a m) ≡ []
filter_none p a zero none = refl
filter_none p a (suc m) none = rw (none a (omega arith) (omega arith)) (filter_none p (a + 1) m (λ i ge lt. none i (omega arith) (omega arith)))

pub filter_run : (p : ℕ → Bool) (a m lo n : ℕ) → PassesRun p a m lo n → filter p (range_with_len a m) ≡ range_with_len lo n
filter_run p a m lo zero run = filter_none p a m (λ i ge lt. ⊎_elim (λ (l : i < lo). run.low i ge l) (λ (g : lo ≤ i). run.high i (omega arith) lt) (cases_lt i lo))
filter_run p a zero lo (suc n) run = absurd (omega (arith, run.above, run.below))
filter_run p a (suc m) lo (suc n) run = ⊎_elim
    (λ (l : a < lo).
    rw (run.low a (omega arith) l) (filter_run p (a + 1) m lo (suc n) (record {
      above = omega arith;
      below = omega (arith, run.below);
      low = λ i ge lt. run.low i (omega arith) lt;
      pass = run.pass;
      high = λ i ge lt. run.high i ge (omega arith);
    })))
    (λ (g : lo ≤ a).
    let here : lo ≡ a = omega (arith, run.above) in
    rw (run.pass a (omega arith) (omega arith), here) (ap (λ xs. a ∷ xs) (filter_run p (a + 1) m (a + 1) n (record {
      above = omega arith;
      below = omega (arith, run.below);
      low = λ i ge lt. absurd (omega arith);
      pass = λ i ge lt. run.pass i (omega arith) (omega arith);
      high = λ i ge lt. run.high i (omega arith) (omega arith);
    }))))
    (cases_lt a lo)

-- what the lists made of others contain
abbrev pub Has : List ℕ → ℕ → Type 0
Has xs y = Contains xs y

pub has_head : (x y : ℕ) (xs : List ℕ) → x ≡ y → Has (x ∷ xs) y
has_head x y xs same = (0, omega arith, same)

pub has_tail : (x y : ℕ) (xs : List ℕ) → Has xs y → Has (x ∷ xs) y
has_tail x y xs there = (suc there.0, omega (arith, there.1), there.2)

cons_at : (x y k : ℕ) (xs : List ℕ) → k < length (x ∷ xs) → get_or (x ∷ xs) k y ≡ y → (x ≡ y) ⊎ Has xs y
cons_at x y zero xs lt same = inl same
cons_at x y (suc k) xs lt same = inr (k, omega arith, same)

has_cases : (x y : ℕ) (xs : List ℕ) → Has (x ∷ xs) y → (x ≡ y) ⊎ Has xs y
has_cases x y xs there = cons_at x y there.0 xs there.1 there.2

pub range_has : (a n x : ℕ) → a ≤ x → x < a + n → Has (range_with_len a n) x
range_has a n x low high = (x - a, omega (arith, length-range_with_len a n), get_or-range_with_len a n (x - a) x (omega arith) ∙ omega arith)

pub in_range : (a n x : ℕ) → Has (range_with_len a n) x → (a ≤ x) × (x < a + n)
in_range a n x there =
    let lt : there.0 < n = omega (arith, there.1, length-range_with_len a n) in
    let at = get_or-range_with_len a n there.0 x lt in
    (omega (arith, at, there.2), omega (arith, at, there.2))

filter_later : (p : ℕ → Bool) (y x : ℕ) (xs : List ℕ) → Has (filter p xs) x → Has (filter p (y ∷ xs)) x
filter_later p y x xs there = ⊎_elim
    (λ (kept : p y ≡ true). rw kept (has_tail y x _ there))
    (λ (left : p y ≡ false). rw left there)
    (cases_Bool (p y))

pub filter_has : (p : ℕ → Bool) (xs : List ℕ) (x : ℕ) → Has xs x → p x ≡ true → Has (filter p xs) x
filter_has p [] x there pass = there
filter_has p (y ∷ xs) x there pass = ⊎_elim
    (λ (same : y ≡ x). rw (same, pass) (has_head x x _ refl))
    (λ (later : Has xs x). filter_later p y x xs (filter_has p xs x later pass))
    (has_cases y x xs there)

pub in_filter : (p : ℕ → Bool) (xs : List ℕ) (x : ℕ) → Has (filter p xs) x → Has xs x × (p x ≡ true)
in_filter p xs x there = (
  All-contains (Has xs) (filter p xs) x (All-filter p (Has xs) xs (All-contains_itself xs)) there,
  All-contains (λ y. p y ≡ true) (filter p xs) x (filter_passes p xs) there,
)

pub map_has : (f : ℕ → ℕ) (xs : List ℕ) (x : ℕ) → Has xs x → Has (map f xs) (f x)
map_has f xs x there = (there.0, omega (arith, there.1, length-map xs f), get_or-map f xs there.0 x (f x) there.1 ∙ ap f there.2)

pub in_map : (f : ℕ → ℕ) (xs : List ℕ) (y : ℕ) → Has (map f xs) y → (x : ℕ) × Has xs x × (f x ≡ y)
in_map f xs y there =
    let lt : there.0 < length xs = omega (arith, there.1, length-map xs f) in
    (get_or xs there.0 0, Contains-get_or xs there.0 0 lt, sym (get_or-map f xs there.0 0 y lt) ∙ there.2)

pub flat_map_has : (f : ℕ → List ℕ) (xs : List ℕ) (x y : ℕ) → Has xs x → Has (f x) y → Has (flat_map f xs) y
flat_map_has f [] x y there inside = absurd (omega (arith, there.1))
flat_map_has f (z ∷ xs) x y there inside = ⊎_elim
    (λ (same : z ≡ x). rw same (Contains-append_left (f x) (flat_map f xs) y inside))
    (λ (later : Has xs x). Contains-append_right (f z) (flat_map f xs) y (flat_map_has f xs x y later inside))
    (has_cases z x xs there)

pub in_flat_map : (f : ℕ → List ℕ) (xs : List ℕ) (y : ℕ) → Has (flat_map f xs) y → (x : ℕ) × Has xs x × Has (f x) y
in_flat_map f [] y there = absurd (omega (arith, there.1))
in_flat_map f (z ∷ xs) y there = ⊎_elim
    (λ (here : Has (f z) y). (z, has_head z z xs refl, here))
    (λ (later : Has (flat_map f xs) y). let found = in_flat_map f xs y later in (found.0, has_tail z found.0 xs found.1, found.2))
    (Contains-append_cases (f z) (flat_map f xs) y there)
