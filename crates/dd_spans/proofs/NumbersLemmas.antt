-- The numbers below or from a number on, and the rising numbers of a list.
use Rattle.std.proofs.Common.{◌≡◌, ℕ, ◌+◌, ◌<◌, ◌≤◌, true, false, eqb, leb, ltb, List, [], ◌∷◌, ◌++◌, take, drop, sym, ap, ◌∙◌, subst, inl, inr, ◌⊎◌, ⊎_elim, arith}
use Rattle.std.specs.List.{All, Contains, dedup}
use Rattle.std.specs.List.Retain.{DiffersFromLast, IsFiltered}
use Rattle.std.specs.List.Sorted.{IsPermutation, IsSorted, IsStrictlyIncreasing}
use Rattle.std.specs.Ordering.{nat_cmp}
use Rattle.std.proofs.lemmas.Bool.{cases_order, leb-true, le-leb, lt-leb, lt-ltb, le-ltb, ltb-true}
use Rattle.std.proofs.lemmas.List.{append-nil, take-append-drop}
use Rattle.std.proofs.lemmas.List.Elements.{All-contains, All-weaker, Contains-append_cases, Contains-append_left, Contains-append_right, filter-append}
use Rattle.std.proofs.lemmas.List.Filters.{dedup_is}
use Rattle.std.proofs.lemmas.List.Kept.{Contains-dedup_nat, Contains-from_dedup, IsStrictlyIncreasing-filter}
use Rattle.std.proofs.lemmas.List.Sorted.{Contains-permutation, IsPermutation-sym}
use Rattle.std.proofs.lemmas.Map.Keys.{IsStrictlyIncreasing-dedup}
use Rattle.dd_spans.specs.Numbers.{numbers_below, numbers_from, rising_numbers, with_number}
use Rattle.dd_spans.proofs.MembersLemmas.{all_from_contains, contains_cases, contains_filter, contains_from_filter, contains_head, contains_tail, filter_all, filter_none, same_from_contains}
use Rattle.dd_spans.proofs.RisingLemmas.{rises_append, rises_cons, rises_nil}

-- ---- the numbers from n on, and those below it

pub contains_from : (n : ℕ) (ns : List ℕ) (m : ℕ) → Contains (numbers_from n ns) m → Contains ns m × (n ≤ m)
contains_from n ns m has = let both = contains_from_filter (λ x. leb n x) ns m has in (both.0, leb-true n m both.1)

pub from_contains : (n : ℕ) (ns : List ℕ) (m : ℕ) → Contains ns m → n ≤ m → Contains (numbers_from n ns) m
from_contains n ns m has le = contains_filter (λ x. leb n x) ns m has (le-leb n m le)

pub contains_below : (n : ℕ) (ns : List ℕ) (m : ℕ) → Contains (numbers_below n ns) m → Contains ns m × (m < n)
contains_below n ns m has = let both = contains_from_filter (λ x. ltb x n) ns m has in (both.0, ltb-true m n both.1)

pub below_contains : (n : ℕ) (ns : List ℕ) (m : ℕ) → Contains ns m → m < n → Contains (numbers_below n ns) m
below_contains n ns m has lt = contains_filter (λ x. ltb x n) ns m has (lt-ltb m n lt)

pub from_rises : (n : ℕ) (ns : List ℕ) → IsStrictlyIncreasing ns → IsStrictlyIncreasing (numbers_from n ns)
from_rises n ns = IsStrictlyIncreasing-filter (λ x. leb n x) ns

pub below_rises : (n : ℕ) (ns : List ℕ) → IsStrictlyIncreasing ns → IsStrictlyIncreasing (numbers_below n ns)
below_rises n ns = IsStrictlyIncreasing-filter (λ x. ltb x n) ns

pub from_least : (n : ℕ) (ns : List ℕ) → All (λ m. n ≤ m) (numbers_from n ns)
from_least n ns = all_from_contains (λ m. n ≤ m) (numbers_from n ns) (λ m has. (contains_from n ns m has).1)

pub from_zero : (ns : List ℕ) → numbers_from 0 ns ≡ ns
from_zero ns = filter_all (λ x. leb 0 x) ns (all_from_contains (λ m. leb 0 m ≡ true) ns (λ m has. le-leb 0 m (omega arith)))

-- a list that is cut where its numbers are no longer below n
pub cut_below : (n : ℕ) (ns : List ℕ) (c : ℕ) → All (λ m. m < n) (take c ns) → All (λ m. n ≤ m) (drop c ns) → take c ns ≡ numbers_below n ns
cut_below n ns c below from =
    let front = filter_all (λ x. ltb x n) (take c ns) (All-weaker (λ m. m < n) (λ m. ltb m n ≡ true) (λ m lt. lt-ltb m n lt) (take c ns) below) in
    let back = filter_none (λ x. ltb x n) (drop c ns) (All-weaker (λ m. n ≤ m) (λ m. ltb m n ≡ false) (λ m le. le-ltb m n le) (drop c ns) from) in
    sym (ap (numbers_below n) (sym (take-append-drop c ns)) ∙ filter-append (λ x. ltb x n) (take c ns) (drop c ns) ∙ (λ i. front i ++ back i) ∙ append-nil (take c ns))

pub cut_from : (n : ℕ) (ns : List ℕ) (c : ℕ) → All (λ m. m < n) (take c ns) → All (λ m. n ≤ m) (drop c ns) → drop c ns ≡ numbers_from n ns
cut_from n ns c below from =
    let front = filter_none (λ x. leb n x) (take c ns) (All-weaker (λ m. m < n) (λ m. leb n m ≡ false) (λ m lt. lt-leb n m lt) (take c ns) below) in
    let back = filter_all (λ x. leb n x) (drop c ns) (All-weaker (λ m. n ≤ m) (λ m. leb n m ≡ true) (λ m le. le-leb n m le) (drop c ns) from) in
    sym (ap (numbers_from n) (sym (take-append-drop c ns)) ∙ filter-append (λ x. leb n x) (take c ns) (drop c ns) ∙ (λ i. front i ++ back i))

-- ---- one number more

contains_with_number : (n : ℕ) (ns : List ℕ) (m : ℕ) → Contains (with_number n ns) m → (m ≡ n) ⊎ Contains ns m
unfolding with_number
contains_with_number n ns m has =
    ⊎_elim
    (λ (below : Contains (numbers_below n ns) m). inr (contains_below n ns m below).0)
    (λ (other : Contains (n ∷ numbers_from (n + 1) ns) m). ⊎_elim
    (λ (same : n ≡ m). inl (sym same))
    (λ (above : Contains (numbers_from (n + 1) ns) m). inr (contains_from (n + 1) ns m above).0)
    (contains_cases n (numbers_from (n + 1) ns) m other))
    (Contains-append_cases (numbers_below n ns) (n ∷ numbers_from (n + 1) ns) m has)

with_number_contains : (n : ℕ) (ns : List ℕ) (m : ℕ) → (m ≡ n) ⊎ Contains ns m → Contains (with_number n ns) m
unfolding with_number
with_number_contains n ns m (inl same) =
    Contains-append_right (numbers_below n ns) (n ∷ numbers_from (n + 1) ns) m (subst (λ (x : ℕ). Contains (n ∷ numbers_from (n + 1) ns) x) (sym same) (contains_head n (numbers_from (n + 1) ns)))
with_number_contains n ns m (inr has) =
    ⊎_elim
    (λ (same : m ≡ n).
    Contains-append_right (numbers_below n ns) (n ∷ numbers_from (n + 1) ns) m (subst (λ (x : ℕ). Contains (n ∷ numbers_from (n + 1) ns) x) (sym same) (contains_head n (numbers_from (n + 1) ns))))
    (λ (other : (m < n) ⊎ (n < m)). ⊎_elim
    (λ (lt : m < n). Contains-append_left (numbers_below n ns) (n ∷ numbers_from (n + 1) ns) m (below_contains n ns m has lt))
    (λ (gt : n < m).
    Contains-append_right (numbers_below n ns) (n ∷ numbers_from (n + 1) ns) m (contains_tail n (numbers_from (n + 1) ns) m (from_contains (n + 1) ns m has (omega arith))))
    other)
    (cases_order m n)

with_number_rises : (n : ℕ) (ns : List ℕ) → IsStrictlyIncreasing ns → IsStrictlyIncreasing (with_number n ns)
unfolding with_number
with_number_rises n ns rises =
    let above = numbers_from (n + 1) ns in
    let least : All (λ m. n < m) above = all_from_contains (λ m. n < m) above (λ m has. let le = (contains_from (n + 1) ns m has).1 in omega arith) in
    rises_append (numbers_below n ns) (n ∷ above) (below_rises n ns rises) (rises_cons n above least (from_rises (n + 1) ns rises))
    (all_from_contains (λ m. All (λ x. m < x) (n ∷ above)) (numbers_below n ns) (λ m has.
    let lt = (contains_below n ns m has).1 in
    all_from_contains (λ x. m < x) (n ∷ above) (λ x behind. ⊎_elim
    (λ (same : n ≡ x). omega arith)
    (λ (far : Contains above x). let gt = All-contains (λ y. n < y) above x least far in omega arith)
    (contains_cases n above x behind))))

-- ---- the rising numbers of a list

pub rising_rises : (ns : List ℕ) → IsStrictlyIncreasing (rising_numbers ns)
unfolding rising_numbers
rising_rises [] = rises_nil
rising_rises (n ∷ ns) = with_number_rises n (rising_numbers ns) (rising_rises ns)

pub contains_rising : (ns : List ℕ) (m : ℕ) → Contains (rising_numbers ns) m → Contains ns m
unfolding rising_numbers
contains_rising [] m has = has
contains_rising (n ∷ ns) m has =
    ⊎_elim
    (λ (same : m ≡ n). subst (λ (x : ℕ). Contains (n ∷ ns) x) (sym same) (contains_head n ns))
    (λ (other : Contains (rising_numbers ns) m). contains_tail n ns m (contains_rising ns m other))
    (contains_with_number n (rising_numbers ns) m has)

pub rising_contains : (ns : List ℕ) (m : ℕ) → Contains ns m → Contains (rising_numbers ns) m
unfolding rising_numbers
rising_contains [] m has = has
rising_contains (n ∷ ns) m has =
    ⊎_elim
    (λ (same : n ≡ m). with_number_contains n (rising_numbers ns) m (inl (sym same)))
    (λ (other : Contains ns m). with_number_contains n (rising_numbers ns) m (inr (rising_contains ns m other)))
    (contains_cases n ns m has)

-- a rising list with the numbers of another is that of its rising numbers
pub rising_is : (ms ns : List ℕ) → IsStrictlyIncreasing ns → ((n : ℕ) → Contains ns n → Contains ms n) → ((n : ℕ) → Contains ms n → Contains ns n) → ns ≡ rising_numbers ms
rising_is ms ns rises to from =
    same_from_contains ns (rising_numbers ms) rises (rising_rises ms) (λ n has. rising_contains ms n (to n has)) (λ n has. from n (contains_rising ms n has))

pub rising_itself : (ns : List ℕ) → IsStrictlyIncreasing ns → rising_numbers ns ≡ ns
rising_itself ns rises = sym (rising_is ns ns rises (λ n has. has) (λ n has. has))

pub all_rising : (P : ℕ → Type 0) (ns : List ℕ) → All P ns → All P (rising_numbers ns)
all_rising P ns all = all_from_contains P (rising_numbers ns) (λ n has. All-contains P ns n all (contains_rising ns n has))

-- a list that is sorted, of which then each number stays once
pub sorted_once : (list sorted once : List ℕ) → IsPermutation list sorted → IsSorted nat_cmp sorted → IsFiltered (DiffersFromLast eqb) [] sorted once → once ≡ rising_numbers list
sorted_once list sorted once moved order filtered =
    dedup_is eqb sorted once filtered
    ∙ rising_is list (dedup eqb sorted) (IsStrictlyIncreasing-dedup sorted order)
    (λ n has. Contains-permutation sorted list n (IsPermutation-sym list sorted moved) (Contains-from_dedup eqb sorted n has))
    (λ n has. Contains-dedup_nat sorted n (Contains-permutation list sorted n moved has))
