-- Tests of the numbers of lists.
use Rattle.std.proofs.Common.{◌≡◌, ℕ, zero, suc, ◌+◌, ◌-◌, ◌<◌, Bool, true, false, ◌||◌, ◌&&◌, cond, filter, eqb, List, [], ◌∷◌, drop, take, get_or, length, refl, ap, sym, ◌∙◌, ◌↔◌, IsTrue, ⊎_elim, arith, ◌≤◌, Some}
use Rattle.std.specs.List.{All, list_all, list_any, Contains, range_with_len, slice_get}
use Rattle.std.proofs.lemmas.Bool.{and_from, and_parts, cases_Bool, cases_eq, eq-eqb, eqb-true, false_from_ne_true}
use Rattle.dd_copies.specs.Numbers.{at_number, or_else}
use Rattle.dd_lists.proofs.ListsLemmas.{has_number as in_number, number_in}

-- whether a number is there, as a test
pub any_is : (xs : List ℕ) (x : ℕ) (b : Bool) → (IsTrue b ↔ Contains xs x) → b ≡ list_any (λ y. eqb y x) xs
any_is xs x b is = ⊎_elim
    (λ (e : b ≡ true). e ∙ sym (in_number xs x (is.0 e)))
    (λ (e : b ≡ false). e ∙ sym (false_from_ne_true (list_any (λ y. eqb y x) xs) (λ any. let t : b ≡ true = is.1 (number_in xs x any) in let f : true ≡ false = sym t ∙ e in cc)))
    (cases_Bool b)

-- the numbers from i up to n: i, and those behind it
pub range_split : (i n : ℕ) → i < n → range_with_len i (n - i) ≡ i ∷ range_with_len (i + 1) (n - (i + 1))
range_split i n lt = let e : n - i ≡ suc (n - (i + 1)) = omega (arith, lt) in ap (range_with_len i) e

pub all_passed : (p : ℕ → Bool) (i n : ℕ) → i < n → p i ≡ true → list_all p (range_with_len (i + 1) (n - (i + 1))) ≡ list_all p (range_with_len i (n - i))
all_passed p i n lt is = sym (ap (list_all p) (range_split i n lt) ∙ ap (λ (t : Bool). t && list_all p (range_with_len (i + 1) (n - (i + 1)))) is)

pub all_failed : (p : ℕ → Bool) (i n : ℕ) → i < n → p i ≡ false → list_all p (range_with_len i (n - i)) ≡ false
all_failed p i n lt is = ap (list_all p) (range_split i n lt) ∙ ap (λ (t : Bool). t && list_all p (range_with_len (i + 1) (n - (i + 1)))) is

pub any_failed : (p : ℕ → Bool) (i n : ℕ) → i < n → p i ≡ false → list_any p (range_with_len (i + 1) (n - (i + 1))) ≡ list_any p (range_with_len i (n - i))
any_failed p i n lt is = sym (ap (list_any p) (range_split i n lt) ∙ ap (λ (t : Bool). t || list_any p (range_with_len (i + 1) (n - (i + 1)))) is)

pub any_passed : (p : ℕ → Bool) (i n : ℕ) → i < n → p i ≡ true → list_any p (range_with_len i (n - i)) ≡ true
any_passed p i n lt is = ap (list_any p) (range_split i n lt) ∙ ap (λ (t : Bool). t || list_any p (range_with_len (i + 1) (n - (i + 1)))) is

-- how many of the numbers from i up to n pass
abbrev pub count_from : (ℕ → Bool) → ℕ → ℕ → ℕ
count_from p i n = length (filter p (range_with_len i (n - i)))

pub count_passed : (p : ℕ → Bool) (i n : ℕ) → i < n → p i ≡ true → count_from p i n ≡ suc (count_from p (i + 1) n)
count_passed p i n lt is = ap (λ xs. length (filter p xs)) (range_split i n lt) ∙ ap (λ (t : Bool). length (cond t (i ∷ filter p (range_with_len (i + 1) (n - (i + 1)))) (filter p (range_with_len (i + 1) (n - (i + 1)))))) is

pub count_failed : (p : ℕ → Bool) (i n : ℕ) → i < n → p i ≡ false → count_from p i n ≡ count_from p (i + 1) n
count_failed p i n lt is = ap (λ xs. length (filter p xs)) (range_split i n lt) ∙ ap (λ (t : Bool). length (cond t (i ∷ filter p (range_with_len (i + 1) (n - (i + 1)))) (filter p (range_with_len (i + 1) (n - (i + 1)))))) is

-- an item that passes, and where it stands
pub any_found : (p : ℕ → Bool) (xs : List ℕ) → list_any p xs ≡ true → (n : ℕ) × (x : ℕ) × (slice_get xs n ≡ Some x) × (p x ≡ true)
any_found p [] any = absurd cc
any_found p (x ∷ xs) any = ⊎_elim
    (λ (e : p x ≡ true). (0, x, refl, e))
    (λ (e : p x ≡ false).
    let rest = any_found p xs (sym (ap (λ (t : Bool). t || list_any p xs) e) ∙ any) in
    (suc rest.0, rest.1, rest.2, rest.3))
    (cases_Bool (p x))

pub any_there : (p : ℕ → Bool) (xs : List ℕ) (n x : ℕ) → slice_get xs n ≡ Some x → p x ≡ true → list_any p xs ≡ true
any_there p [] n x at is = absurd cc
any_there p (z ∷ xs) zero x at is = ap (λ (t : Bool). t || list_any p xs) (let same : z ≡ x = cc in ap p same ∙ is)
any_there p (z ∷ xs) (suc n) x at is = by (p z) (any_there p xs n x at is)
  where
    by : (t : Bool) → list_any p xs ≡ true → (t || list_any p xs) ≡ true
    by true h = refl
    by false h = h

pub any_range : (p : ℕ → Bool) (a n t : ℕ) → a ≤ t → t < a + n → p t ≡ true → list_any p (range_with_len a n) ≡ true
any_range p a zero t low high is = absurd (omega (arith, low, high))
any_range p a (suc n) t low high is = ⊎_elim
    (λ (e : a ≡ t). ap (λ (b : Bool). b || list_any p (range_with_len (a + 1) n)) (ap p e ∙ is))
    (λ (ne : a ≡ t → ⊥). by (p a) (any_range p (a + 1) n t (omega (arith, low, ne)) (omega (arith, high)) is))
    (cases_eq a t)
  where
    by : (b : Bool) → list_any p (range_with_len (a + 1) n) ≡ true → (b || list_any p (range_with_len (a + 1) n)) ≡ true
    by true h = refl
    by false h = h

-- the items from i on: the next one is that of number i + 1
abbrev pub number_at : List ℕ → ℕ → ℕ
number_at xs p = or_else 0 (at_number xs p)

pub any_drop_failed : (p : ℕ → Bool) (xs : List ℕ) (i : ℕ) → i < length xs → p (number_at xs (suc i)) ≡ false → list_any p (drop (suc i) xs) ≡ list_any p (drop i xs)
any_drop_failed p [] i lt is = absurd (omega (arith, lt))
any_drop_failed p (x ∷ xs) zero lt is = sym (ap (λ (t : Bool). t || list_any p xs) is)
any_drop_failed p (x ∷ xs) (suc i) lt is = any_drop_failed p xs i (omega (arith, lt)) is

pub any_drop_passed : (p : ℕ → Bool) (xs : List ℕ) (i : ℕ) → i < length xs → p (number_at xs (suc i)) ≡ true → list_any p (drop i xs) ≡ true
any_drop_passed p [] i lt is = absurd (omega (arith, lt))
any_drop_passed p (x ∷ xs) zero lt is = ap (λ (t : Bool). t || list_any p xs) is
any_drop_passed p (x ∷ xs) (suc i) lt is = any_drop_passed p xs i (omega (arith, lt)) is

-- a test of each number that a list has
pub all_of : (p : ℕ → Bool) (xs : List ℕ) → list_all p xs ≡ true ↔ ((b : ℕ) → list_any (λ x. eqb x b) xs ≡ true → p b ≡ true)
all_of p xs = ((λ all b there. to xs all b there), (λ each. from xs each))
  where
    at_all : (ys : List ℕ) (n x : ℕ) → list_all p ys ≡ true → slice_get ys n ≡ Some x → p x ≡ true
    at_all [] n x all at = absurd cc
    at_all (z ∷ zs) zero x all at = (let same : z ≡ x = cc in ap p (sym same)) ∙ (and_parts (p z) (list_all p zs) all).0
    at_all (z ∷ zs) (suc n) x all at = at_all zs n x (and_parts (p z) (list_all p zs) all).1 at

    to : (ys : List ℕ) → list_all p ys ≡ true → (b : ℕ) → list_any (λ x. eqb x b) ys ≡ true → p b ≡ true
    to ys all b there =
        let found = any_found (λ x. eqb x b) ys there in
        let same : found.1 ≡ b = eqb-true found.1 b found.3 in
        ap p (sym same) ∙ at_all ys found.0 found.1 all found.2

    or_right : (a b : Bool) → b ≡ true → (a || b) ≡ true
    or_right true b e = refl
    or_right false b e = e

    from : (ys : List ℕ) → ((b : ℕ) → list_any (λ x. eqb x b) ys ≡ true → p b ≡ true) → list_all p ys ≡ true
    from [] each = refl
    from (z ∷ zs) each =
        and_from (p z) (list_all p zs) (each z (ap (λ (t : Bool). t || list_any (λ x. eqb x z) zs) (eq-eqb z z refl)))
        (from zs (λ b there. each b (or_right (eqb z b) (list_any (λ x. eqb x b) zs) there)))

-- the numbers from i on that pass
pub filter_passed : (p : ℕ → Bool) (i n : ℕ) → i < n → p i ≡ true → filter p (range_with_len i (n - i)) ≡ i ∷ filter p (range_with_len (i + 1) (n - (i + 1)))
filter_passed p i n lt is = ap (filter p) (range_split i n lt) ∙ ap (λ (t : Bool). cond t (i ∷ filter p (range_with_len (i + 1) (n - (i + 1)))) (filter p (range_with_len (i + 1) (n - (i + 1))))) is

pub filter_failed : (p : ℕ → Bool) (i n : ℕ) → i < n → p i ≡ false → filter p (range_with_len i (n - i)) ≡ filter p (range_with_len (i + 1) (n - (i + 1)))
filter_failed p i n lt is = ap (filter p) (range_split i n lt) ∙ ap (λ (t : Bool). cond t (i ∷ filter p (range_with_len (i + 1) (n - (i + 1)))) (filter p (range_with_len (i + 1) (n - (i + 1))))) is

-- of the first items one more
any_suc : {A : Type 0} (p : A → Bool) (xs : List A) (i : ℕ) (d : A) → i < length xs → list_any p (take (suc i) xs) ≡ (list_any p (take i xs) || p (get_or xs i d))
any_suc p [] i d lt = absurd (omega (arith, lt))
any_suc p (x ∷ xs) zero d lt = by (p x)
  where
    by : (t : Bool) → (t || false) ≡ t
    by true = refl
    by false = refl
any_suc p (x ∷ xs) (suc i) d lt =
    ap (λ (t : Bool). p x || t) (any_suc p xs i d (omega (arith, lt))) ∙ by (p x) (list_any p (take i xs)) (p (get_or xs i d))
  where
    by : (a b c : Bool) → (a || (b || c)) ≡ ((a || b) || c)
    by true b c = refl
    by false b c = refl

pub any_take_more : {A : Type 0} (p : A → Bool) (xs : List A) (i : ℕ) (d : A) → i < length xs → list_any p (take (i + 1) xs) ≡ (list_any p (take i xs) || p (get_or xs i d))
any_take_more p xs i d lt = let e : i + 1 ≡ suc i = omega arith in ap (λ (k : ℕ). list_any p (take k xs)) e ∙ any_suc p xs i d lt

-- a test that no item passes
pub any_nowhere : {A : Type 0} (p : A → Bool) (xs : List A) → All (λ x. p x ≡ false) xs → list_any p xs ≡ false
any_nowhere p [] all = refl
any_nowhere p (x ∷ xs) all =
    ap (λ (t : Bool). t || list_any p xs) (all 0 x (omega arith)) ∙ any_nowhere p xs (λ k d lt. all (suc k) d (omega (arith, lt)))
