-- Tests and facts over lists, and over lists that are made of lists.
use Rattle.std.proofs.Common.{◌≡◌, ℕ, zero, suc, ◌+◌, ◌-◌, ◌<◌, ◌≤◌, Bool, true, false, cond, ◌&&◌, ◌||◌, eqb, List, [], ◌∷◌, ◌++◌, length, get_or, map, take, refl, sym, ap, subst, ◌∙◌, arith, ⊎_elim}
use Rattle.std.specs.List.{All, Contains, filter, flat_map, list_any, range_with_len}
use Rattle.std.proofs.lemmas.Bool.{cases_lt, eq-eqb, eqb-true}
use Rattle.std.proofs.lemmas.List.{length-append, map-append}
use Rattle.std.proofs.lemmas.List.Elements.{All-append, All-head, All-nil, All-tail, Contains-append_left, Contains-append_right}
use Rattle.std.proofs.lemmas.List.Folds.{Any-from_list_any, list_any-append, list_any_at}

pub All-flat_map : {X Y : Type 0} (P : Y → Type 0) (f : X → List Y) (xs : List X) → All (λ x. All P (f x)) xs → All P (flat_map f xs)
All-flat_map P f [] all = All-nil P
All-flat_map {X = X} {Y = Y} P f (x ∷ xs) all =
    let Q : X → Type 0 = λ y. All P (f y) in
    All-append P (f x) (flat_map f xs) (All-head Q x xs all) (All-flat_map P f xs (All-tail Q x xs all))

pub list_any-flat_map : {X Y : Type 0} (p : Y → Bool) (f : X → List Y) (xs : List X) → list_any p (flat_map f xs) ≡ list_any (λ x. list_any p (f x)) xs
list_any-flat_map p f [] = refl
list_any-flat_map p f (x ∷ xs) = list_any-append p (f x) (flat_map f xs) ∙ ap (λ (b : Bool). list_any p (f x) || b) (list_any-flat_map p f xs)

pub list_any_same : {X : Type 0} (p q : X → Bool) (xs : List X) → All (λ x. p x ≡ q x) xs → list_any p xs ≡ list_any q xs
list_any_same p q [] all = refl
list_any_same {X = X} p q (x ∷ xs) all =
    let P : X → Type 0 = λ y. p y ≡ q y in
    ap (λ (b : Bool). b || list_any p xs) (All-head P x xs all) ∙ ap (λ (b : Bool). q x || b) (list_any_same p q xs (All-tail P x xs all))

pub or_false : (a b : Bool) → (a || b) ≡ false → (a ≡ false) × (b ≡ false)
or_false true b e = absurd (cc)
or_false false b e = (refl, e)

-- a stronger test than one that nothing passes
pub list_any_weaker : {X : Type 0} (p q : X → Bool) (xs : List X) → ((x : X) → q x ≡ false → p x ≡ false) → list_any q xs ≡ false → list_any p xs ≡ false
list_any_weaker p q [] weak none = refl
list_any_weaker p q (x ∷ xs) weak none =
    let both = or_false (q x) (list_any q xs) none in
    ap (λ (b : Bool). b || list_any p xs) (weak x both.0) ∙ list_any_weaker p q xs weak both.1

pub list_any-cond : {X : Type 0} (p : X → Bool) (b : Bool) (xs : List X) → list_any p (cond b xs []) ≡ (b && list_any p xs)
list_any-cond p true xs = refl
list_any-cond p false xs = refl

pub All-cond : {X : Type 0} (P : X → Type 0) (b : Bool) (xs : List X) → All P xs → All P (cond b xs [])
All-cond P true xs all = all
All-cond P false xs all = All-nil P

pub length-cond : {X : Type 0} (b : Bool) (xs : List X) → length (cond b xs []) ≤ length xs
length-cond true xs = omega arith
length-cond false xs = omega arith

pub filter-map : {X Y : Type 0} (p : Y → Bool) (f : X → Y) (xs : List X) → filter p (map f xs) ≡ map f (filter (λ x. p (f x)) xs)
filter-map p f [] = refl
filter-map {X = X} {Y = Y} p f (x ∷ xs) =
    let more = filter-map p f xs in
    elim (p (f x)) as (λ (b : Bool). cond b (f x ∷ filter p (map f xs)) (filter p (map f xs)) ≡ map f (cond b (x ∷ filter (λ y. p (f y)) xs) (filter (λ y. p (f y)) xs)))
    [ true ↦ ap (λ (ys : List Y). f x ∷ ys) more | false ↦ more ]

pub list_any-map : {X Y : Type 0} (p : Y → Bool) (f : X → Y) (xs : List X) → list_any p (map f xs) ≡ list_any (λ x. p (f x)) xs
list_any-map p f [] = refl
list_any-map p f (x ∷ xs) = ap (λ (b : Bool). p (f x) || b) (list_any-map p f xs)

pub map-flat_map : {X Y Z : Type 0} (f : Y → Z) (g : X → List Y) (xs : List X) → map f (flat_map g xs) ≡ flat_map (λ x. map f (g x)) xs
map-flat_map f g [] = refl
map-flat_map {Z = Z} f g (x ∷ xs) = map-append f (g x) (flat_map g xs) ∙ ap (λ (zs : List Z). map f (g x) ++ zs) (map-flat_map f g xs)

pub flat_map_same : {X Y : Type 0} (f g : X → List Y) (xs : List X) → ((x : X) → f x ≡ g x) → flat_map f xs ≡ flat_map g xs
flat_map_same f g [] same = refl
flat_map_same {Y = Y} f g (x ∷ xs) same = ap (λ (ys : List Y). ys ++ flat_map f xs) (same x) ∙ ap (λ (ys : List Y). g x ++ ys) (flat_map_same f g xs same)

-- where a place of a joined list stands: in which part, and where in it
pub record IsPart {X Y : Type 0} (f : X → List Y) (xs : List X) (d : X) (j : ℕ) : Type 0 where
  pub part : ℕ
  pub place : ℕ
  pub is_part : part < length xs
  pub is_place : place < length (f (get_or xs part d))
  pub is : j ≡ length (flat_map f (take part xs)) + place

pub part_of : {X Y : Type 0} (f : X → List Y) (xs : List X) (d : X) (j : ℕ) → j < length (flat_map f xs) → IsPart f xs d j
part_of f [] d j lt = absurd (omega arith)
part_of f (x ∷ xs) d j lt =
    ⊎_elim
    (λ (here : j < length (f x)). record { part = 0; place = j; is_part = omega arith; is_place = here; is = omega arith })
    (λ (past : length (f x) ≤ j).
    let rest = part_of f xs d (j - length (f x)) (omega (arith, past, lt, length-append (f x) (flat_map f xs))) in
    record {
      part = suc rest.part;
      place = rest.place;
      is_part = omega (arith, rest.is_part);
      is_place = rest.is_place;
      is = omega (arith, rest.is, past, length-append (f x) (flat_map f (take rest.part xs)));
    })
    (cases_lt j (length (f x)))

-- a number stands in a list, as a test and as a fact
pub number_in : (xs : List ℕ) (n : ℕ) → list_any (λ x. eqb x n) xs ≡ true → Contains xs n
number_in xs n is =
    let any = Any-from_list_any (λ x. eqb x n) xs is in
    subst (Contains xs) (eqb-true any.1 n any.4) (any.0, any.2, any.3)

pub has_number : (xs : List ℕ) (n : ℕ) → Contains xs n → list_any (λ x. eqb x n) xs ≡ true
has_number xs n here = list_any_at (λ x. eqb x n) xs here.0 n here.1 (eq-eqb (get_or xs here.0 n) n here.2)

-- a list has what one of its parts has
pub Contains-flat_map : {X Y : Type 0} (f : X → List Y) (xs : List X) (x : X) (y : Y) → Contains xs x → Contains (f x) y → Contains (flat_map f xs) y
Contains-flat_map f [] x y here there = absurd (omega (arith, here.1))
Contains-flat_map f (z ∷ xs) x y (zero, lt, is) there = Contains-append_left (f z) (flat_map f xs) y (subst (λ w. Contains (f w) y) (sym is) there)
Contains-flat_map f (z ∷ xs) x y (suc k, lt, is) there = Contains-append_right (f z) (flat_map f xs) y (Contains-flat_map f xs x y (k, omega (arith, lt), is) there)

pub Contains-filter : {X : Type 0} (p : X → Bool) (xs : List X) (x : X) → Contains xs x → p x ≡ true → Contains (filter p xs) x
Contains-filter p [] x here is = absurd (omega (arith, here.1))
Contains-filter p (z ∷ xs) x (zero, lt, same) is = rw (ap p same ∙ is) (0, omega arith, same)
Contains-filter p (z ∷ xs) x (suc k, lt, same) is = by (p z) (Contains-filter p xs x (k, omega (arith, lt), same) is)
  where
    by : (t : Bool) → Contains (filter p xs) x → Contains (cond t (z ∷ filter p xs) (filter p xs)) x
    by true h = (suc h.0, omega (arith, h.1), h.2)
    by false h = h

pub Contains-map : {X Y : Type 0} (f : X → Y) (xs : List X) (x : X) → Contains xs x → Contains (map f xs) (f x)
Contains-map f [] x here = absurd (omega (arith, here.1))
Contains-map f (z ∷ xs) x (zero, lt, is) = (0, omega arith, ap f is)
Contains-map {X = X} f (z ∷ xs) x (suc k, lt, is) =
    let here : Contains xs x = (k, omega (arith, lt), is) in
    let there = Contains-map f xs x here in
    (suc there.0, omega (arith, there.1), there.2)

-- a filter that keeps all, and one that keeps none
pub filter_all : {X : Type 0} (p : X → Bool) (xs : List X) → All (λ x. p x ≡ true) xs → filter p xs ≡ xs
filter_all p [] all = refl
filter_all {X = X} p (x ∷ xs) all =
    let P : X → Type 0 = λ y. p y ≡ true in
    ap (λ (b : Bool). cond b (x ∷ filter p xs) (filter p xs)) (All-head P x xs all) ∙ ap (λ (ys : List X). x ∷ ys) (filter_all p xs (All-tail P x xs all))

pub filter_none : {X : Type 0} (p : X → Bool) (xs : List X) → All (λ x. p x ≡ false) xs → filter p xs ≡ []
filter_none p [] all = refl
filter_none {X = X} p (x ∷ xs) all =
    let P : X → Type 0 = λ y. p y ≡ false in
    ap (λ (b : Bool). cond b (x ∷ filter p xs) (filter p xs)) (All-head P x xs all) ∙ filter_none p xs (All-tail P x xs all)

-- the next of the numbers that are left
pub next_left : {X : Type 0} (f : ℕ → List X) (i n : ℕ) → i < n → flat_map f (range_with_len i (n - i)) ≡ f i ++ flat_map f (range_with_len (i + 1) (n - (i + 1)))
next_left f i n l =
    let e : n - i ≡ suc (n - (i + 1)) = omega arith in
    ap (λ k. flat_map f (range_with_len i k)) e

-- two maps of as many numbers that give the same
pub same_map : {X : Type 0} (f g : ℕ → X) (a b n : ℕ) → ((i : ℕ) → i < n → f (a + i) ≡ g (b + i)) → map f (range_with_len a n) ≡ map g (range_with_len b n)
same_map f g a b zero same = refl
same_map f g a b (suc n) same =
    let none_a : a + 0 ≡ a = omega arith in
    let none_b : b + 0 ≡ b = omega arith in
    let head : f a ≡ g b = rw none_a at (rw none_b at (same 0 (omega arith))) in
    rw head (ap (λ xs. g b ∷ xs) (same_map f g (a + 1) (b + 1) n (λ i lt.
    let next_a : a + 1 + i ≡ a + suc i = omega arith in
    let next_b : b + 1 + i ≡ b + suc i = omega arith in
    rw (next_a, next_b) (same (suc i) (omega arith)))))
