-- Two sorted lists that are walked side by side.
use Rattle.std.proofs.Common.{◌≡◌, ℕ, ◌+◌, ◌<◌, ◌≤◌, Bool, true, false, not, cond, List, [], ◌∷◌, ◌++◌, length, get_or, drop, sym, ap, ◌∙◌, subst, ⊎_elim, ◌⊎◌, ◌↔◌, arith}
use mathlib.Core.Bool.{beq}
use Rattle.std.specs.List.{All, Contains, filter}
use Rattle.std.specs.List.Sorted.{IsStrictlyIncreasing}
use Rattle.std.proofs.lemmas.Bool.{cases_order, false≢true}
use Rattle.std.proofs.lemmas.Bool.Decides.{same_from_decides, Decides-like, Decides-not}
use Rattle.std.proofs.lemmas.List.{append-nil, append_assoc, drop_all, drop_more}
use Rattle.std.proofs.lemmas.List.Elements.{All-append, All-contains, All-weaker, Contains-append_cases, Contains-append_left, Contains-append_right}
use Rattle.dd_spans.specs.Numbers.{is_among, numbers_below, numbers_from, rising_numbers}
use Rattle.dd_spans.specs.Kept.{is_kept}
use Rattle.dd_spans.proofs.RisingLemmas.{above_head, rises_append, rises_cons, rises_drop}
use Rattle.dd_spans.proofs.MembersLemmas.{all_from_contains, contains_cases, contains_filter, contains_from_filter, contains_head, contains_tail, filter_same, is_among_decides}
use Rattle.dd_spans.proofs.NumbersLemmas.{all_rising, below_contains, below_rises, contains_below, contains_from, contains_rising, from_contains, from_least, rising_contains, rising_is, rising_itself, rising_rises}

-- ---- the numbers that are kept

-- what is below n says nothing of the numbers from n on
among_from : (left : List ℕ) (n m : ℕ) → n ≤ m → is_among left m ≡ is_among (numbers_from n left) m
among_from left n m le =
    same_from_decides (is_among left m) (is_among (numbers_from n left) m) (is_among_decides left m)
    (Decides-like (is_among (numbers_from n left) m) (λ has. (contains_from n left m has).0) (λ has. from_contains n left m has le) (is_among_decides (numbers_from n left) m))

kept_from : (shared : Bool) (left : List ℕ) (n m : ℕ) → n ≤ m → is_kept shared left m ≡ is_kept shared (numbers_from n left) m
kept_from true left n m le = among_from left n m le
kept_from false left n m le = ap not (among_from left n m le)

-- one number further
pub kept_step : (shared : Bool) (left : List ℕ) (n : ℕ) (ns : List ℕ) → IsStrictlyIncreasing (n ∷ ns)
    → filter (is_kept shared left) (n ∷ ns)
    ≡ cond (is_kept shared (numbers_from n left) n) (n ∷ filter (is_kept shared (numbers_from n left)) ns) (filter (is_kept shared (numbers_from n left)) ns)
kept_step shared left n ns rises =
    let here = kept_from shared left n n (omega arith) in
    let rest = filter_same (is_kept shared left) (is_kept shared (numbers_from n left)) ns (All-weaker (λ m. n < m) (λ m. is_kept shared left m ≡ is_kept shared (numbers_from n left) m) (λ m lt. kept_from shared left n m (omega arith)) ns (above_head n ns rises)) in
    λ i. cond (here i) (n ∷ rest i) (rest i)

-- a rising list from a place on
from_place : (ns : List ℕ) (i n : ℕ) → IsStrictlyIncreasing ns → i < length ns → n ≡ get_or ns i 0 → (drop i ns ≡ n ∷ drop (i + 1) ns) × IsStrictlyIncreasing (n ∷ drop (i + 1) ns)
from_place ns i n rises lt is =
    let e : drop i ns ≡ n ∷ drop (i + 1) ns = drop_more ns i 0 lt ∙ ap (λ (x : ℕ). x ∷ drop (i + 1) ns) (sym is) in
    (e, subst IsStrictlyIncreasing e (rises_drop i ns rises))

-- the loop's step, with the number at the place i kept or not
module _ (shared : Bool) (left numbers self all : List ℕ) (i n : ℕ) (rises : IsStrictlyIncreasing self) (lt : i < length self) (is : n ≡ get_or self i 0)
    (so_far : numbers ++ filter (is_kept shared left) (drop i self) ≡ all) where
  kept_next : numbers
      ++ cond (is_kept shared (numbers_from n left) n) (n ∷ filter (is_kept shared (numbers_from n left)) (drop (i + 1) self)) (filter (is_kept shared (numbers_from n left)) (drop (i + 1) self))
      ≡ all
  kept_next =
      let here = from_place self i n rises lt is in
      ap (λ (xs : List ℕ). numbers ++ xs) (sym (ap (filter (is_kept shared left)) here.0 ∙ kept_step shared left n (drop (i + 1) self) here.1)) ∙ so_far

  pub kept_yes : is_kept shared (numbers_from n left) n ≡ true → (numbers ++ n ∷ []) ++ filter (is_kept shared (numbers_from n left)) (drop (i + 1) self) ≡ all
  kept_yes passes =
      let rest = filter (is_kept shared (numbers_from n left)) (drop (i + 1) self) in
      append_assoc numbers (n ∷ []) rest ∙ ap (λ (b : Bool). numbers ++ cond b (n ∷ rest) rest) (sym passes) ∙ kept_next

  pub kept_no : is_kept shared (numbers_from n left) n ≡ false → numbers ++ filter (is_kept shared (numbers_from n left)) (drop (i + 1) self) ≡ all
  kept_no fails =
      let rest = filter (is_kept shared (numbers_from n left)) (drop (i + 1) self) in
      ap (λ (b : Bool). numbers ++ cond b (n ∷ rest) rest) (sym fails) ∙ kept_next

pub kept_all : (p : ℕ → Bool) (numbers self all : List ℕ) (i : ℕ) → length self ≤ i → numbers ++ filter p (drop i self) ≡ all → numbers ≡ all
kept_all p numbers self all i past so_far = sym (append-nil numbers) ∙ ap (λ (xs : List ℕ). numbers ++ filter p xs) (sym (drop_all i self past)) ∙ so_far

-- the test of the loop
pub kept_if : (shared : Bool) (ns : List ℕ) (n : ℕ) (r : Bool) → r ≡ is_among ns n → beq r shared ≡ true → is_kept shared ns n ≡ true
kept_if true ns n true is same = sym is
kept_if true ns n false is same = absurd (false≢true same)
kept_if false ns n true is same = absurd (false≢true same)
kept_if false ns n false is same = ap not (sym is)

pub kept_unless : (shared : Bool) (ns : List ℕ) (n : ℕ) (r : Bool) → r ≡ is_among ns n → beq r shared ≡ false → is_kept shared ns n ≡ false
kept_unless true ns n true is differs = absurd (false≢true (sym differs))
kept_unless true ns n false is differs = sym is
kept_unless false ns n true is differs = ap not (sym is)
kept_unless false ns n false is differs = absurd (false≢true (sym differs))

-- ---- which numbers these are

pub both_members : (ours theirs : List ℕ) (n : ℕ) → Contains (filter (is_among theirs) ours) n ↔ (Contains ours n × Contains theirs n)
both_members ours theirs n =
    let test = is_among_decides theirs n in
    ((λ has. let kept = contains_from_filter (is_among theirs) ours n has in (kept.0, test.0 kept.1)), (λ has. contains_filter (is_among theirs) ours n has.0 (test.1 has.1)))

pub alone_members : (ours theirs : List ℕ) (n : ℕ) → Contains (filter (λ m. not (is_among theirs m)) ours) n ↔ (Contains ours n × (¬ Contains theirs n))
alone_members ours theirs n =
    let test = Decides-not (is_among theirs n) (is_among_decides theirs n) in
    let p : ℕ → Bool = λ m. not (is_among theirs m) in
    ((λ has. let kept = contains_from_filter p ours n has in (kept.0, test.0 kept.1)), (λ has. contains_filter p ours n has.0 (test.1 has.1)))

pub either_members : (ours theirs : List ℕ) (n : ℕ) → Contains (rising_numbers (ours ++ theirs)) n ↔ (Contains ours n ⊎ Contains theirs n)
either_members ours theirs n = (
  (λ has. Contains-append_cases ours theirs n (contains_rising (ours ++ theirs) n has)),
  (λ has. rising_contains (ours ++ theirs) n (⊎_elim (Contains-append_left ours theirs n) (Contains-append_right ours theirs n) has)),
)

-- ---- the numbers of both

-- one number further
pub union_step : (left : List ℕ) (n : ℕ) (ns : List ℕ) → IsStrictlyIncreasing (n ∷ ns) → IsStrictlyIncreasing left
    → rising_numbers ((n ∷ ns) ++ left) ≡ numbers_below n left ++ n ∷ rising_numbers (ns ++ numbers_from (n + 1) (numbers_from n left))
union_step left n ns rises sorted =
    let later = ns ++ numbers_from (n + 1) (numbers_from n left) in
    let behind = numbers_from (n + 1) (numbers_from n left) in
    let above : All (λ m. n < m) (rising_numbers later) =
    all_rising (λ m. n < m) later (All-append (λ m. n < m) ns behind (above_head n ns rises)
    (All-weaker (λ m. n + 1 ≤ m) (λ m. n < m) (λ m le. omega arith) behind (from_least (n + 1) (numbers_from n left)))) in
    let all = numbers_below n left ++ n ∷ rising_numbers later in
    let up : IsStrictlyIncreasing all =
    rises_append (numbers_below n left) (n ∷ rising_numbers later) (below_rises n left sorted) (rises_cons n (rising_numbers later) above (rising_rises later))
    (all_from_contains (λ m. All (λ x. m < x) (n ∷ rising_numbers later)) (numbers_below n left) (λ m has.
    let lt = (contains_below n left m has).1 in
    all_from_contains (λ x. m < x) (n ∷ rising_numbers later) (λ x far. ⊎_elim
    (λ (same : n ≡ x). omega arith)
    (λ (more : Contains (rising_numbers later) x). let gt = All-contains (λ y. n < y) (rising_numbers later) x above more in omega arith)
    (contains_cases n (rising_numbers later) x far)))) in
    let to : (m : ℕ) → Contains all m → Contains ((n ∷ ns) ++ left) m = λ m has. ⊎_elim
    (λ (below : Contains (numbers_below n left) m). Contains-append_right (n ∷ ns) left m (contains_below n left m below).0)
    (λ (other : Contains (n ∷ rising_numbers later) m). ⊎_elim
    (λ (same : n ≡ m). Contains-append_left (n ∷ ns) left m (subst (λ (x : ℕ). Contains (n ∷ ns) x) same (contains_head n ns)))
    (λ (more : Contains (rising_numbers later) m). ⊎_elim
    (λ (self : Contains ns m). Contains-append_left (n ∷ ns) left m (contains_tail n ns m self))
    (λ (far : Contains behind m). Contains-append_right (n ∷ ns) left m (contains_from n left m (contains_from (n + 1) (numbers_from n left) m far).0).0)
    (Contains-append_cases ns behind m (contains_rising later m more)))
    (contains_cases n (rising_numbers later) m other))
    (Contains-append_cases (numbers_below n left) (n ∷ rising_numbers later) m has) in
    let in_tail : (m : ℕ) → Contains later m → Contains all m = λ m has.
    Contains-append_right (numbers_below n left) (n ∷ rising_numbers later) m (contains_tail n (rising_numbers later) m (rising_contains later m has)) in
    let in_here : (m : ℕ) → n ≡ m → Contains all m = λ m same.
    Contains-append_right (numbers_below n left) (n ∷ rising_numbers later) m (subst (λ (x : ℕ). Contains (n ∷ rising_numbers later) x) same (contains_head n (rising_numbers later))) in
    let from : (m : ℕ) → Contains ((n ∷ ns) ++ left) m → Contains all m = λ m has. ⊎_elim
    (λ (self : Contains (n ∷ ns) m). ⊎_elim
    (in_here m)
    (λ (more : Contains ns m). in_tail m (Contains-append_left ns behind m more))
    (contains_cases n ns m self))
    (λ (other : Contains left m). ⊎_elim
    (λ (same : m ≡ n). in_here m (sym same))
    (λ (apart : (m < n) ⊎ (n < m)). ⊎_elim
    (λ (lt : m < n). Contains-append_left (numbers_below n left) (n ∷ rising_numbers later) m (below_contains n left m other lt))
    (λ (gt : n < m). in_tail m (Contains-append_right ns behind m (from_contains (n + 1) (numbers_from n left) m (from_contains n left m other (omega arith)) (omega arith))))
    apart)
    (cases_order m n))
    (Contains-append_cases (n ∷ ns) left m has) in
    sym (rising_is ((n ∷ ns) ++ left) all up to from)

-- the loop's step
pub union_next : (left numbers self all : List ℕ) (i n : ℕ) → IsStrictlyIncreasing self → IsStrictlyIncreasing left → i < length self → n ≡ get_or self i 0
    → numbers ++ rising_numbers (drop i self ++ left) ≡ all
    → ((numbers ++ numbers_below n left) ++ n ∷ []) ++ rising_numbers (drop (i + 1) self ++ numbers_from (n + 1) (numbers_from n left)) ≡ all
union_next left numbers self all i n rises sorted lt is so_far =
    let here = from_place self i n rises lt is in
    let below = numbers_below n left in
    let rest = rising_numbers (drop (i + 1) self ++ numbers_from (n + 1) (numbers_from n left)) in
    append_assoc (numbers ++ below) (n ∷ []) rest ∙ append_assoc numbers below (n ∷ rest)
    ∙ ap (λ (xs : List ℕ). numbers ++ xs) (sym (ap (λ (xs : List ℕ). rising_numbers (xs ++ left)) here.0 ∙ union_step left n (drop (i + 1) self) here.1 sorted))
    ∙ so_far

pub union_all : (left numbers self all : List ℕ) (i : ℕ) → IsStrictlyIncreasing left → length self ≤ i → numbers ++ rising_numbers (drop i self ++ left) ≡ all → numbers ++ left ≡ all
union_all left numbers self all i sorted past so_far =
    ap (λ (xs : List ℕ). numbers ++ xs) (sym (ap (λ (xs : List ℕ). rising_numbers (xs ++ left)) (drop_all i self past) ∙ rising_itself left sorted)) ∙ so_far
