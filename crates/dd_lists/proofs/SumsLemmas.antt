-- Sums over lists, and over numbers that stand one after the other.
use Rattle.std.proofs.Common.{◌≡◌, ◌≢◌, ℕ, zero, suc, ◌+◌, ◌<◌, ◌≤◌, Bool, true, false, eqb, cond, List, [], ◌∷◌, ◌++◌, map, refl, sym, ap, ◌∙◌, arith, ⊎_elim, add-zero, zero-add}
use Rattle.std.specs.List.{All, flat_map, range_with_len, sum_by}
use Rattle.std.proofs.lemmas.Bool.{cases_eq}
use Rattle.std.proofs.lemmas.Bool.Decides.{nat_tests}
use Rattle.std.proofs.lemmas.List.Elements.{All-head, All-tail}
use Rattle.std.proofs.lemmas.List.Sums.{sum_by-append, sum_by-cons}

pub sum_by-add : {X : Type 0} (f g : X → ℕ) (xs : List X) → sum_by (λ x. f x + g x) xs ≡ sum_by f xs + sum_by g xs
sum_by-add f g [] = refl
sum_by-add {X = X} f g (x ∷ xs) =
    let both : X → ℕ = λ y. f y + g y in
    omega (arith, sum_by-cons both x xs, sum_by-cons f x xs, sum_by-cons g x xs, sum_by-add f g xs)

-- what is the same at each number has the same sum
pub sum_same : (f g : ℕ → ℕ) (a n : ℕ) → ((x : ℕ) → a ≤ x → x < a + n → f x ≡ g x) → sum_by f (range_with_len a n) ≡ sum_by g (range_with_len a n)
sum_same f g a zero same = refl
sum_same f g a (suc n) same =
    let here : f a ≡ g a = same a (omega arith) (omega arith) in
    let more = sum_same f g (a + 1) n (λ x low high. same x (omega arith) (omega arith)) in
    omega (arith, sum_by-cons f a (range_with_len (a + 1) n), sum_by-cons g a (range_with_len (a + 1) n), here, more)

pub sum_zero : (f : ℕ → ℕ) (a n : ℕ) → ((x : ℕ) → a ≤ x → x < a + n → f x ≡ 0) → sum_by f (range_with_len a n) ≡ 0
sum_zero f a zero none = refl
sum_zero f a (suc n) none =
    let here : f a ≡ 0 = none a (omega arith) (omega arith) in
    let more = sum_zero f (a + 1) n (λ x low high. none x (omega arith) (omega arith)) in
    omega (arith, sum_by-cons f a (range_with_len (a + 1) n), here, more)

at_one : (b x c : ℕ) → b ≡ x → cond (eqb b x) c 0 ≡ c
at_one b x c e = ap (λ (t : Bool). cond t c 0) (let t : eqb b x ≡ true = grind (arith, nat_tests) in t)

not_at : (b x c : ℕ) → b ≢ x → cond (eqb b x) c 0 ≡ 0
not_at b x c ne = ap (λ (t : Bool). cond t c 0) (let t : eqb b x ≡ false = grind (arith, nat_tests) in t)

-- where one number alone counts
pub sum_one : (f : ℕ → ℕ) (b a n : ℕ) → a ≤ b → b < a + n → sum_by (λ x. cond (eqb b x) (f x) 0) (range_with_len a n) ≡ f b
sum_one f b a zero low high = absurd (omega arith)
sum_one f b a (suc n) low high =
    let g : ℕ → ℕ = λ x. cond (eqb b x) (f x) 0 in
    let first = sum_by-cons g a (range_with_len (a + 1) n) in
    ⊎_elim
    (λ (e : b ≡ a).
    let rest : sum_by g (range_with_len (a + 1) n) ≡ 0 = sum_zero g (a + 1) n (λ x l h. not_at b x (f x) (omega arith)) in
    omega (arith, first, at_one b a (f a) e, rest, ap f e))
    (λ (ne : b ≢ a). omega (arith, first, not_at b a (f a) ne, sum_one f b (a + 1) n (omega arith) (omega arith)))
    (cases_eq b a)

pub range-add : (a m n : ℕ) → range_with_len a (m + n) ≡ range_with_len a m ++ range_with_len (a + m) n
range-add a zero n = ap (range_with_len a) (zero-add n) ∙ ap (λ (b : ℕ). range_with_len b n) (sym (add-zero a))
range-add a (suc m) n =
    let e : suc m + n ≡ suc (m + n) = omega arith in
    let b : a + 1 + m ≡ a + suc m = omega arith in
    ap (range_with_len a) e ∙ ap (λ (xs : List ℕ). a ∷ xs) (range-add (a + 1) m n) ∙ ap (λ (c : ℕ). a ∷ (range_with_len (a + 1) m ++ range_with_len c n)) b

pub sum_range-add : (f : ℕ → ℕ) (a m n : ℕ) → sum_by f (range_with_len a (m + n)) ≡ sum_by f (range_with_len a m) + sum_by f (range_with_len (a + m) n)
sum_range-add f a m n = ap (sum_by f) (range-add a m n) ∙ sum_by-append f (range_with_len a m) (range_with_len (a + m) n)

pub sum_shift : (f : ℕ → ℕ) (a b n : ℕ) → sum_by f (range_with_len (a + b) n) ≡ sum_by (λ p. f (a + p)) (range_with_len b n)
sum_shift f a b zero = refl
sum_shift f a b (suc n) =
    let g : ℕ → ℕ = λ p. f (a + p) in
    let e : a + b + 1 ≡ a + (b + 1) = omega arith in
    let more : sum_by f (range_with_len (a + b + 1) n) ≡ sum_by g (range_with_len (b + 1) n) = ap (λ (c : ℕ). sum_by f (range_with_len c n)) e ∙ sum_shift f a (b + 1) n in
    omega (arith, sum_by-cons f (a + b) (range_with_len (a + b + 1) n), sum_by-cons g b (range_with_len (b + 1) n), more)

pub sum_by-flat_map : {X Y : Type 0} (g : Y → ℕ) (f : X → List Y) (xs : List X) → sum_by g (flat_map f xs) ≡ sum_by (λ x. sum_by g (f x)) xs
sum_by-flat_map g f [] = refl
sum_by-flat_map {X = X} g f (x ∷ xs) =
    let parts : X → ℕ = λ y. sum_by g (f y) in
    omega (arith, sum_by-append g (f x) (flat_map f xs), sum_by-cons parts x xs, sum_by-flat_map g f xs)

-- what is the same at each element has the same sum, and what is nothing at each has none
pub sum_by_same : {X : Type 0} (f g : X → ℕ) (xs : List X) → All (λ x. f x ≡ g x) xs → sum_by f xs ≡ sum_by g xs
sum_by_same f g [] same = refl
sum_by_same {X = X} f g (x ∷ xs) same =
    let P : X → Type 0 = λ y. f y ≡ g y in
    omega (arith, sum_by-cons f x xs, sum_by-cons g x xs, All-head P x xs same, sum_by_same f g xs (All-tail P x xs same))

pub sum_by_zero : {X : Type 0} (f : X → ℕ) (xs : List X) → All (λ x. f x ≡ 0) xs → sum_by f xs ≡ 0
sum_by_zero f [] none = refl
sum_by_zero {X = X} f (x ∷ xs) none =
    let P : X → Type 0 = λ y. f y ≡ 0 in
    omega (arith, sum_by-cons f x xs, All-head P x xs none, sum_by_zero f xs (All-tail P x xs none))

pub sum_by-map : {X Y : Type 0} (g : Y → ℕ) (f : X → Y) (xs : List X) → sum_by g (map f xs) ≡ sum_by (λ x. g (f x)) xs
sum_by-map g f [] = refl
sum_by-map {X = X} g f (x ∷ xs) =
    let both : X → ℕ = λ y. g (f y) in
    omega (arith, sum_by-cons g (f x) (map f xs), sum_by-cons both x xs, sum_by-map g f xs)

pub map-shift : (a b n : ℕ) → map (λ p. a + p) (range_with_len b n) ≡ range_with_len (a + b) n
map-shift a b zero = refl
map-shift a b (suc n) =
    let e : a + (b + 1) ≡ a + b + 1 = omega arith in
    ap (λ (xs : List ℕ). (a + b) ∷ xs) (map-shift a (b + 1) n ∙ ap (λ (c : ℕ). range_with_len c n) e)
