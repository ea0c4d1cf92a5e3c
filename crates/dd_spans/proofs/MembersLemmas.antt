-- Which numbers a list has, and that a rising list is known by its numbers.
use Rattle.std.proofs.Common.{◌≡◌, ℕ, zero, suc, ◌<◌, Bool, true, false, cond, List, [], ◌∷◌, length, get_or, Decides, ◌==◌, refl, sym, ap, ◌∙◌, subst, inl, inr, ◌⊎◌, ⊎_elim, arith}
use Rattle.std.specs.List.{All, Contains, filter}
use Rattle.std.specs.List.Sorted.{IsStrictlyIncreasing}
use Rattle.std.proofs.lemmas.List.Elements.{All-contains, All-contains_itself, All-filter, All-head, All-tail, Contains-get_or, Decides-contains, filter_passes}
use Rattle.std.proofs.lemmas.Bool.Decides.{Decides-by_or, Decides-eqb}
use Rattle.std.proofs.lemmas.List.{get_or_default}
use Rattle.dd_spans.specs.Numbers.{is_among}
use Rattle.dd_spans.proofs.RisingLemmas.{above_head, rises_tail}

pub contains_cases : (m : ℕ) (ns : List ℕ) (n : ℕ) → Contains (m ∷ ns) n → (m ≡ n) ⊎ Contains ns n
contains_cases m ns n (zero, lt, is) = inl is
contains_cases m ns n (suc k, lt, is) = inr (k, omega arith, is)

pub contains_head : (n : ℕ) (ns : List ℕ) → Contains (n ∷ ns) n
contains_head n ns = (0, omega arith, refl)

pub contains_tail : (m : ℕ) (ns : List ℕ) (n : ℕ) → Contains ns n → Contains (m ∷ ns) n
contains_tail m ns n (k, lt, is) = (suc k, omega arith, is)

pub contains_none : (n : ℕ) → ¬ Contains [] n
contains_none n (k, lt, is) = omega arith

-- a number that a list has, by its place
pub place_of : (ns : List ℕ) (n : ℕ) → Contains ns n → (k : ℕ) × (k < length ns) × (get_or ns k 0 ≡ n)
place_of ns n (k, lt, is) = (k, lt, get_or_default ns k 0 n lt ∙ is)

-- what holds of each number that a list has
pub all_from_contains : (P : ℕ → Type 0) (ns : List ℕ) → ((n : ℕ) → Contains ns n → P n) → All P ns
all_from_contains P ns each k d lt = each (get_or ns k d) (Contains-get_or ns k d lt)

-- two rising lists with the same numbers are one
pub same_from_contains : (ms ns : List ℕ) → IsStrictlyIncreasing ms → IsStrictlyIncreasing ns → ((n : ℕ) → Contains ms n → Contains ns n) → ((n : ℕ) → Contains ns n → Contains ms n) → ms ≡ ns
same_from_contains [] [] first second to from = refl
same_from_contains [] (n ∷ ns) first second to from = absurd (contains_none n (from n (contains_head n ns)))
same_from_contains (m ∷ ms) [] first second to from = absurd (contains_none m (to m (contains_head m ms)))
same_from_contains (m ∷ ms) (n ∷ ns) first second to from =
    let above_m = above_head m ms first in
    let above_n = above_head n ns second in
    let e : m ≡ n =
    ⊎_elim
    (λ (same : n ≡ m). sym same)
    (λ (behind : Contains ns m). ⊎_elim
    (λ (same : m ≡ n). same)
    (λ (far : Contains ms n). absurd (omega (arith, All-contains (λ x. n < x) ns m above_n behind, All-contains (λ x. m < x) ms n above_m far)))
    (contains_cases m ms n (from n (contains_head n ns))))
    (contains_cases n ns m (to m (contains_head m ms))) in
    let rest : ms ≡ ns = same_from_contains ms ns (rises_tail m ms first) (rises_tail n ns second)
    (λ x has. ⊎_elim
    (λ (same : n ≡ x). absurd (omega (arith, All-contains (λ y. m < y) ms x above_m has)))
    (λ (behind : Contains ns x). behind)
    (contains_cases n ns x (to x (contains_tail m ms x has))))
    (λ x has. ⊎_elim
    (λ (same : m ≡ x). absurd (omega (arith, All-contains (λ y. n < y) ns x above_n has)))
    (λ (behind : Contains ms x). behind)
    (contains_cases m ms x (from x (contains_tail n ns x has)))) in
    λ i. e i ∷ rest i

-- ---- a filter

pub contains_from_filter : (p : ℕ → Bool) (ns : List ℕ) (n : ℕ) → Contains (filter p ns) n → Contains ns n × (p n ≡ true)
contains_from_filter p ns n has = (
  All-contains (Contains ns) (filter p ns) n (All-filter p (Contains ns) ns (All-contains_itself ns)) has,
  All-contains (λ x. p x ≡ true) (filter p ns) n (filter_passes p ns) has,
)

pub contains_filter : (p : ℕ → Bool) (ns : List ℕ) (n : ℕ) → Contains ns n → p n ≡ true → Contains (filter p ns) n
contains_filter p [] n has passes = absurd (contains_none n has)
contains_filter p (m ∷ ns) n has passes =
    ⊎_elim
    (λ (same : m ≡ n).
    let kept : cond (p m) (m ∷ filter p ns) (filter p ns) ≡ m ∷ filter p ns = ap (λ (b : Bool). cond b (m ∷ filter p ns) (filter p ns)) (ap p same ∙ passes) in
    subst (λ (xs : List ℕ). Contains xs n) (sym kept) (subst (λ (x : ℕ). Contains (m ∷ filter p ns) x) same (contains_head m (filter p ns))))
    (λ (behind : Contains ns n).
    let rest = contains_filter p ns n behind passes in
    elim (p m) as (λ (b : Bool). Contains (cond b (m ∷ filter p ns) (filter p ns)) n) [ true ↦ contains_tail m (filter p ns) n rest | false ↦ rest ])
    (contains_cases m ns n has)

-- tests that agree at each number of a list
pub filter_same : (p q : ℕ → Bool) (ns : List ℕ) → All (λ n. p n ≡ q n) ns → filter p ns ≡ filter q ns
filter_same p q [] agree = refl
filter_same p q (n ∷ ns) agree =
    let P : ℕ → Type 0 = λ x. p x ≡ q x in
    let here = All-head P n ns agree in
    let rest = filter_same p q ns (All-tail P n ns agree) in
    λ i. cond (here i) (n ∷ rest i) (rest i)

pub filter_all : (p : ℕ → Bool) (ns : List ℕ) → All (λ n. p n ≡ true) ns → filter p ns ≡ ns
filter_all p [] passes = refl
filter_all p (n ∷ ns) passes =
    let P : ℕ → Type 0 = λ x. p x ≡ true in
    let here = All-head P n ns passes in
    let rest = filter_all p ns (All-tail P n ns passes) in
    λ i. cond (here i) (n ∷ rest i) (rest i)

pub filter_none : (p : ℕ → Bool) (ns : List ℕ) → All (λ n. p n ≡ false) ns → filter p ns ≡ []
filter_none p [] fails = refl
filter_none p (n ∷ ns) fails =
    let P : ℕ → Type 0 = λ x. p x ≡ false in
    let here = All-head P n ns fails in
    let rest = filter_none p ns (All-tail P n ns fails) in
    λ i. cond (here i) (n ∷ rest i) (rest i)

-- ---- the test

pub is_among_decides : (ns : List ℕ) (n : ℕ) → Decides (is_among ns n) (Contains ns n)
is_among_decides ns n =
    Decides-contains ns n (is_among ns n) (Decides-by_or (λ m. m == n) (λ m. m ≡ n) (λ xs. is_among xs n) (λ m. Decides-eqb m n) refl (λ _ _. refl) ns)
