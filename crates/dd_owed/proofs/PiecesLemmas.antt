-- Items of lists by their places: of joined pieces of one length, of numbers that follow each other, of those that pass a test.
use Rattle.std.proofs.Common.{◌≡◌, ℕ, zero, suc, ◌+◌, ◌-◌, ◌/◌, ◌%◌, ◌<◌, ◌≤◌, Bool, true, false, not, nat_eq, ◌≢◌, List, [], ◌∷◌, ◌++◌, length, filter, Option, Some, None, refl, ap, sym, ◌∙◌, ⊎_elim, arith}
use Rattle.std.specs.List.{flat_map, range_with_len, slice_get}
use Rattle.std.proofs.Math.Nat.{add-div_left, add-mod_left, div-eq_of_lt, mod-eq_of_lt}
use Rattle.std.proofs.lemmas.Bool.{cases_lt, eq-eqb, ne_eqb}
use Rattle.std.proofs.lemmas.List.FromFn.{length-range_with_len}
use Rattle.std.proofs.lemmas.Option.{slice_get_past}

-- the item of a place, from 0, of the piece of an item, where there is one
abbrev pub in_piece : {X A : Type 0} → (X → List A) → ℕ → Option X → Option A
in_piece f r None = None
in_piece f r (Some x) = slice_get (f x) r

get_front : {A : Type 0} (xs ys : List A) (i : ℕ) → i < length xs → slice_get (xs ++ ys) i ≡ slice_get xs i
get_front [] ys i lt = absurd (omega (arith, lt))
get_front (x ∷ xs) ys zero lt = refl
get_front (x ∷ xs) ys (suc i) lt = get_front xs ys i (omega (arith, lt))

get_behind : {A : Type 0} (xs ys : List A) (i : ℕ) → slice_get (xs ++ ys) (length xs + i) ≡ slice_get ys i
get_behind [] ys i = let e : 0 + i ≡ i = omega arith in ap (slice_get ys) e
get_behind (x ∷ xs) ys i = let e : length (x ∷ xs) + i ≡ suc (length xs + i) = omega arith in ap (slice_get (x ∷ xs ++ ys)) e ∙ get_behind xs ys i

-- joined pieces that all have n items
pub get_piece : {X A : Type 0} (f : X → List A) (xs : List X) (n i : ℕ) → 0 < n → ((x : X) → length (f x) ≡ n)
    → slice_get (flat_map f xs) i ≡ in_piece f (i % n) (slice_get xs (i / n))
get_piece f [] n i some long = refl
get_piece f (x ∷ xs) n i some long = ⊎_elim
    (λ (lt : i < n).
    let here = long x in
    let q : i / n ≡ 0 = div-eq_of_lt lt in
    let r : i % n ≡ i = mod-eq_of_lt lt in
    get_front (f x) (flat_map f xs) i (omega (arith, lt, here))
    ∙ sym (ap (λ (k : ℕ). in_piece f (i % n) (slice_get (x ∷ xs) k)) q ∙ ap (slice_get (f x)) r))
    (λ (le : n ≤ i).
    let here = long x in
    let j = i - n in
    let far : i ≡ length (f x) + j = omega (arith, le, here) in
    let split : i ≡ n + j = omega (arith, le) in
    let one : j / n + 1 ≡ suc (j / n) = omega arith in
    let q : i / n ≡ suc (j / n) = ap (λ (k : ℕ). k / n) split ∙ add-div_left j some ∙ one in
    let r : i % n ≡ j % n = ap (λ (k : ℕ). k % n) split ∙ add-mod_left n j in
    ap (slice_get (flat_map f (x ∷ xs))) far ∙ get_behind (f x) (flat_map f xs) j ∙ get_piece f xs n j some long
    ∙ sym (ap (λ (k : ℕ). in_piece f (i % n) (slice_get (x ∷ xs) k)) q ∙ ap (λ (k : ℕ). in_piece f k (slice_get xs (j / n))) r))
    (cases_lt i n)

-- the numbers from a on
pub get_range : (a n i : ℕ) → i < n → slice_get (range_with_len a n) i ≡ Some (a + i)
get_range a zero i lt = absurd (omega (arith, lt))
get_range a (suc n) zero lt = let e : a ≡ a + 0 = omega arith in ap Some e
get_range a (suc n) (suc i) lt = let e : (a + 1) + i ≡ a + suc i = omega arith in get_range (a + 1) n i (omega (arith, lt)) ∙ ap Some e

pub get_range_past : (a n i : ℕ) → n ≤ i → slice_get (range_with_len a n) i ≡ None
get_range_past a n i le = slice_get_past (range_with_len a n) i (let e = length-range_with_len a n in omega (arith, e, le))

-- those from place j on that pass a test
abbrev pub passing : (ℕ → Bool) → ℕ → ℕ → ℕ → List ℕ
passing p first n j = filter p (range_with_len (first + j) (n - j))

front_is : (first n j : ℕ) → j < n → range_with_len (first + j) (n - j) ≡ (first + j) ∷ range_with_len (first + (j + 1)) (n - (j + 1))
front_is first n j lt =
    let k : n - j ≡ suc (n - (j + 1)) = omega (arith, lt) in
    let next : (first + j) + 1 ≡ first + (j + 1) = omega arith in
    ap (range_with_len (first + j)) k ∙ ap (λ (a : ℕ). (first + j) ∷ range_with_len a (n - (j + 1))) next

pub passes : (p : ℕ → Bool) (first n j : ℕ) → j < n → p (first + j) ≡ true → passing p first n j ≡ (first + j) ∷ passing p first n (j + 1)
passes p first n j lt good = ap (filter p) (front_is first n j lt) ∙ rw good refl

pub fails : (p : ℕ → Bool) (first n j : ℕ) → j < n → p (first + j) ≡ false → passing p first n j ≡ passing p first n (j + 1)
fails p first n j lt bad = ap (filter p) (front_is first n j lt) ∙ rw bad refl

pub none_pass : (p : ℕ → Bool) (first n : ℕ) → passing p first n n ≡ []
none_pass p first n = let e : n - n ≡ 0 = omega arith in ap (λ (k : ℕ). filter p (range_with_len (first + n) k)) e

-- one more item of those that pass is left behind
pub sought_here : (p : ℕ → Bool) (first n j : ℕ) (wanted : Option ℕ) → j < n → p (first + j) ≡ true → slice_get (passing p first n j) 0 ≡ wanted → Some (first + j) ≡ wanted
sought_here p first n j wanted lt good is = sym (ap (λ (xs : List ℕ). slice_get xs 0) (passes p first n j lt good)) ∙ is

pub sought_later : (p : ℕ → Bool) (first n j i : ℕ) (wanted : Option ℕ) → j < n → p (first + j) ≡ true → 0 < i → slice_get (passing p first n j) i ≡ wanted
    → slice_get (passing p first n (j + 1)) (i - 1) ≡ wanted
sought_later p first n j zero wanted lt good some is = absurd (omega (arith, some))
sought_later p first n j (suc i) wanted lt good some is =
    let k : suc i - 1 ≡ i = omega arith in
    ap (slice_get (passing p first n (j + 1))) k ∙ sym (ap (λ (xs : List ℕ). slice_get xs (suc i)) (passes p first n j lt good)) ∙ is

pub sought_past : (p : ℕ → Bool) (first n j i : ℕ) (wanted : Option ℕ) → j < n → p (first + j) ≡ false → slice_get (passing p first n j) i ≡ wanted
    → slice_get (passing p first n (j + 1)) i ≡ wanted
sought_past p first n j i wanted lt bad is = sym (ap (λ (xs : List ℕ). slice_get xs i) (fails p first n j lt bad)) ∙ is

-- a number that is another one, and one that isn't
pub is_other : (a b : ℕ) → a ≢ b → not (nat_eq a b) ≡ true
is_other a b apart = ap not (ne_eqb a b apart)

pub is_same : (a b : ℕ) → a ≡ b → not (nat_eq a b) ≡ false
is_same a b same = ap not (eq-eqb a b same)
