-- A list in rising order is the one that insertion makes of any order of its elements.
use Rattle.std.proofs.Common.{◌≡◌, ℕ, zero, suc, ◌<◌, ℤ, pos, Bool, true, false, cond, List, [], ◌∷◌, length, int_lt, Less, Equal, Greater, add-one, inl, inr, refl, ap, sym, ◌∙◌, arith}
use Rattle.std.specs.List.{sum_by, remove}
use Rattle.std.specs.List.Sorted.{IsSorted, IsPermutation}
use Rattle.std.specs.Ordering.{int_cmp, is_lt}
use Rattle.std.proofs.lemmas.List.Sorted.{sum_by-IsPermutation}
use Rattle.std.proofs.lemmas.List.Sums.{sum_by-cons, sum_by-remove}
use Rattle.std.proofs.lemmas.Int.{ints}
use Rattle.std.proofs.lemmas.Bool.{cases_lt}
use Rattle.dd_kernels.specs.Lists.{element, insert_rising, rising}

insert_comm : (a b : ℤ) (zs : List ℤ) → insert_rising a (insert_rising b zs) ≡ insert_rising b (insert_rising a zs)
insert_comm a b [] = grind (arith, ints)
insert_comm a b (z ∷ zs) = let rest = insert_comm a b zs in grind (arith, ints, rest)

-- any element may be the last one to be inserted
rising_pulled : (ys : List ℤ) (k : ℕ) → k < length ys → rising ys ≡ insert_rising (element ys k) (rising (remove ys k))
rising_pulled [] k within = absurd (omega arith)
rising_pulled (y ∷ ys) zero within = refl
rising_pulled (y ∷ ys) (suc k) within = ap (insert_rising y) (rising_pulled ys k (omega arith)) ∙ insert_comm y (element ys k) (rising (remove ys k))

-- where a count isn't zero, an element counts
counted : (f : ℤ → ℕ) (ys : List ℤ) → 0 < sum_by f ys → (k : ℕ) × (k < length ys) × (0 < f (element ys k))
counted f [] some = absurd (omega arith)
counted f (y ∷ ys) some =
    elim (cases_lt 0 (f y)) [
      | inl here ↦ (0, omega arith, here)
      | inr none ↦ let rest = counted f ys (omega (arith, sum_by-cons f y ys)) in (suc rest.0, omega (arith, rest.1), rest.2)
    ]

-- one at `x`, and nothing elsewhere
mark : ℤ → ℤ → ℕ
mark x z = cond (int_lt z x) 0 (cond (int_lt x z) 0 1)

mark_self : (x : ℤ) → mark x x ≡ 1
unfolding mark
mark_self x = grind (arith, ints)

marked : (x z : ℤ) → 0 < mark x z → z ≡ x
unfolding mark
marked x z some = grind (arith, ints)

-- two lists with the same elements have one rising order
same_rising : (xs ys : List ℤ) → ((f : ℤ → ℕ) → sum_by f ys ≡ sum_by f xs) → rising ys ≡ rising xs
same_rising [] [] same = refl
same_rising [] (y ∷ ys) same = absurd (omega (arith, same (λ _. 1), sum_by-cons (λ (_ : ℤ). 1) y ys))
same_rising (x ∷ xs) ys same =
    let found = counted (mark x) ys (omega (arith, same (mark x), sum_by-cons (mark x) x xs, mark_self x)) in
    let is = marked x (element ys found.0) found.2 in
    let rest = same_rising xs (remove ys found.0) (λ f. omega (arith, same f, sum_by-cons f x xs, sum_by-remove f ys found.0 (pos 0) found.1, ap f is)) in
    rising_pulled ys found.0 found.1 ∙ (ap (λ (z : ℤ). insert_rising z (rising (remove ys found.0))) is ∙ ap (insert_rising x) rest)

-- a list whose neighbours rise is its own rising order
rising_itself : (ys : List ℤ) → ((k : ℕ) → suc k < length ys → int_lt (element ys (suc k)) (element ys k) ≡ false) → rising ys ≡ ys
rising_itself [] up = refl
rising_itself (x ∷ []) up = refl
rising_itself (x ∷ y ∷ ys) up =
    ap (insert_rising x) (rising_itself (y ∷ ys) (λ k within. up (suc k) (omega arith))) ∙ ap (λ (b : Bool). cond b (y ∷ insert_rising x ys) (x ∷ y ∷ ys)) (up 0 (omega arith))

by_tests : (below above : Bool) → is_lt (cond below Less (cond above Greater Equal)) ≡ below
by_tests true above = refl
by_tests false true = refl
by_tests false false = refl

-- the order of Int64 by its test
pub lt_is : (x y : ℤ) → is_lt (int_cmp x y) ≡ int_lt x y
lt_is x y = by_tests (int_lt x y) (int_lt y x)

pub rising_is : (xs ys : List ℤ) → IsPermutation xs ys → IsSorted int_cmp ys → ys ≡ rising xs
rising_is xs ys moved up =
    sym (rising_itself ys (λ k within. sym (lt_is (element ys (suc k)) (element ys k)) ∙ rw add-one at (up k (pos 0) (omega arith) (omega arith)))) ∙ same_rising xs ys (λ f. sum_by-IsPermutation f xs ys moved)
