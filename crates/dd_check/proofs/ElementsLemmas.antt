-- Lists by what they contain.
use Rattle.std.proofs.Common.{◌≡◌, ◌≢◌, ℕ, zero, suc, ◌+◌, ◌<◌, Bool, true, false, List, [], ◌∷◌, length, get_or, map, Some, refl, ap, sym, ◌∙◌, ◌⊎◌, inl, inr, ⊎_elim, arith}
use Rattle.std.specs.List.{All, AllPairs, Contains, filter, find}
use Rattle.std.proofs.lemmas.Bool.{cases_Bool, false≢true}
use Rattle.std.proofs.lemmas.List.Elements.{All-cons, Contains-get_or}
use Rattle.dd_lists.proofs.ListsLemmas.{filter_all}

pub contains_head : {X : Type 0} (x y : X) (xs : List X) → x ≡ y → Contains (x ∷ xs) y
contains_head x y xs same = (0, omega arith, same)

pub contains_tail : {X : Type 0} (x y : X) (xs : List X) → Contains xs y → Contains (x ∷ xs) y
contains_tail x y xs there = (suc there.0, omega (arith, there.1), there.2)

pub contains_cases : {X : Type 0} (x y : X) (xs : List X) → Contains (x ∷ xs) y → (x ≡ y) ⊎ Contains xs y
contains_cases x y xs there = go there.0 there.1 there.2
  where
    go : (k : ℕ) → k < suc (length xs) → get_or (x ∷ xs) k y ≡ y → (x ≡ y) ⊎ Contains xs y
    go zero lt is = inl is
    go (suc k) lt is = inr (k, omega arith, is)

pub contains_none : {X : Type 0} (y : X) → Contains [] y → ⊥
contains_none y there = absurd (omega (arith, there.1))

pub contains_filter : {X : Type 0} (p : X → Bool) (xs : List X) (y : X) → Contains xs y → p y ≡ true → Contains (filter p xs) y
contains_filter p [] y there passes = absurd (contains_none y there)
contains_filter p (x ∷ xs) y there passes = ⊎_elim
    (λ (same : x ≡ y). let here : p x ≡ true = ap p same ∙ passes in rw here (contains_head x y (filter p xs) same))
    (λ (rest : Contains xs y).
    let kept : Contains (filter p xs) y = contains_filter p xs y rest passes in
    ⊎_elim
    (λ (yes : p x ≡ true). rw yes (contains_tail x y (filter p xs) kept))
    (λ (no : p x ≡ false). rw no kept)
    (cases_Bool (p x)))
    (contains_cases x y xs there)

pub filter_contains : {X : Type 0} (p : X → Bool) (xs : List X) (y : X) → Contains (filter p xs) y → Contains xs y × (p y ≡ true)
filter_contains p [] y there = absurd (contains_none y there)
filter_contains p (x ∷ xs) y there = ⊎_elim
    (λ (yes : p x ≡ true).
    let kept : Contains (x ∷ filter p xs) y = rw yes at there in
    ⊎_elim
    (λ (same : x ≡ y). (contains_head x y xs same, ap p (sym same) ∙ yes))
    (λ (rest : Contains (filter p xs) y). let more : Contains xs y × (p y ≡ true) = filter_contains p xs y rest in (contains_tail x y xs more.0, more.1))
    (contains_cases x y (filter p xs) kept))
    (λ (no : p x ≡ false).
    let kept : Contains (filter p xs) y = rw no at there in
    let more : Contains xs y × (p y ≡ true) = filter_contains p xs y kept in
    (contains_tail x y xs more.0, more.1))
    (cases_Bool (p x))

pub contained : {X : Type 0} (P : X → Type 0) (xs : List X) → ((y : X) → Contains xs y → P y) → All P xs
contained P xs each k d lt = each (get_or xs k d) (Contains-get_or xs k d lt)

pub pairs_tail : {X : Type 0} (R : X → X → Type 0) (x : X) (xs : List X) → AllPairs R (x ∷ xs) → AllPairs R xs
pairs_tail R x xs pairs i j d lt within = pairs (suc i) (suc j) d (omega arith) (omega arith)

pub pairs_head : {X : Type 0} (R : X → X → Type 0) (x : X) (xs : List X) → AllPairs R (x ∷ xs) → All (R x) xs
pairs_head R x xs pairs k d lt = pairs 0 (suc k) d (omega arith) (omega arith)

-- of elements that differ a filter that drops one of them drops one
pub one_dropped : {X : Type 0} (p : X → Bool) (y : X) (xs : List X) → ((x : X) → p x ≡ false → x ≡ y) → ((x : X) → x ≡ y → p x ≡ false) → AllPairs (λ (a b : X). a ≢ b) xs → Contains xs y → length (filter p xs) + 1 ≡ length xs
one_dropped p y [] only drops apart there = absurd (contains_none y there)
one_dropped {X} p y (x ∷ xs) only drops apart there = ⊎_elim
    (λ (yes : p x ≡ true).
    let other : x ≢ y = λ same. false≢true (sym (drops x same) ∙ yes) in
    let rest : Contains xs y = ⊎_elim (λ (same : x ≡ y). absurd (other same)) (λ (more : Contains xs y). more) (contains_cases x y xs there) in
    let less : length (filter p xs) + 1 ≡ length xs = one_dropped p y xs only drops (pairs_tail (λ (a b : X). a ≢ b) x xs apart) rest in
    rw yes (omega (arith, less)))
    (λ (no : p x ≡ false).
    let same : x ≡ y = only x no in
    let others : All (λ (z : X). x ≢ z) xs = pairs_head (λ (a b : X). a ≢ b) x xs apart in
    let kept : filter p xs ≡ xs = filter_all p xs (λ k d lt. ⊎_elim (λ (t : p (get_or xs k d) ≡ true). t) (λ (f : p (get_or xs k d) ≡ false). absurd (others k d lt (same ∙ sym (only (get_or xs k d) f)))) (cases_Bool (p (get_or xs k d)))) in
    rw no (rw kept (omega arith)))
    (cases_Bool (p x))

pub only_one : {X : Type 0} (xs : List X) (x y : X) → length xs ≡ 1 → Contains xs x → Contains xs y → x ≡ y
only_one [] x y one in_x in_y = absurd (omega arith)
only_one (a ∷ b ∷ xs) x y one in_x in_y = absurd (omega arith)
only_one (a ∷ []) x y one in_x in_y = ⊎_elim
    (λ (s : a ≡ x). ⊎_elim (λ (t : a ≡ y). sym s ∙ t) (λ (no : Contains [] y). absurd (contains_none y no)) (contains_cases a y [] in_y))
    (λ (no : Contains [] x). absurd (contains_none x no))
    (contains_cases a x [] in_x)

-- nothing is found where nothing passes
pub not_found : {X Y : Type 0} (p : Y → Bool) (f : X → Y) (xs : List X) → ((y : Y) → find p (map f xs) ≡ Some y → ⊥) → All (λ x. p (f x) ≡ false) xs
not_found p f [] none = λ k d lt. absurd (omega arith)
not_found p f (x ∷ xs) none = ⊎_elim
    (λ (yes : p (f x) ≡ true). absurd (none (f x) (rw yes refl)))
    (λ (no : p (f x) ≡ false). All-cons (λ z. p (f z) ≡ false) x xs no (not_found p f xs (λ y found. none y (rw no found))))
    (cases_Bool (p (f x)))
