-- Searches: an answer is found, or a fact holds of each number.
use Rattle.std.proofs.Common.{◌≡◌, ◌≢◌, ◌⊎◌, ℕ, zero, suc, ◌+◌, ◌*◌, ◌<◌, ◌≤◌, Bool, true, false, cond, ◌||◌, eqb, max, List, [], ◌∷◌, map, length, Option, Some, None, refl, ap, sym, ◌∙◌, subst, inl, inr, ⊎_elim, arith}
use Rattle.std.specs.Prelude.{filter, not, slice_get, sum}
use Rattle.std.specs.List.{fold, last_or, list_any, range_with_len}
use Rattle.std.proofs.lemmas.Bool.{cases_Bool, cases_eq, eqb-true, ne_eqb, or_cases}
use Rattle.dd_recency.specs.declared.policy.Policy.{Policy}
use Rattle.dd_recency.specs.declared.policy.Policy.TheVariants.{Lru, Mru}
use Rattle.dd_recency.specs.Victim.{unpinned, victim as chosen}
use Rattle.dd_machine.specs.Bytes.{when}
use Rattle.dd_machine.specs.Words.{IsOneOf, has_number, total}
use Rattle.dd_machine.proofs.TotalsLemmas.{total_add, total_le, total_le_one, total_less_one, total_zero, when_at_most, when_false}
use Rattle.dd_machine.proofs.RangesLemmas.{has_filter}

-- from 1 to n, where each smaller number is known to have the fact
pub search_up : {A : Type 0} (n : ℕ) (Q : ℕ → Type 0) → ((k : ℕ) → IsOneOf n k → ((j : ℕ) → 1 ≤ j → j < k → Q j) → A ⊎ Q k) → A ⊎ ((k : ℕ) → IsOneOf n k → Q k)
search_up zero Q try = inr (λ k is. let low = is.0 in let high = is.1 in absurd (omega (arith, low, high)))
search_up (suc n) Q try = ⊎_elim
    (λ a. inl a)
    (λ (all : (k : ℕ) → IsOneOf n k → Q k). ⊎_elim
    (λ a. inl a)
    (λ (last : Q (suc n)). inr (λ k is. ⊎_elim
    (λ (e : k ≡ suc n). subst Q (sym e) last)
    (λ (e : k ≡ suc n → ⊥). all k (is.0, let high = is.1 in omega (arith, high, e)))
    (cases_eq k (suc n))))
    (try (suc n) (omega arith, omega arith) (λ j low lt. all j (low, omega (arith, lt)))))
    (search_up n Q (λ k is below. try k (is.0, let high = is.1 in omega (arith, high)) below))

pub search : {A : Type 0} (n : ℕ) (Q : ℕ → Type 0) → ((k : ℕ) → IsOneOf n k → A ⊎ Q k) → A ⊎ ((k : ℕ) → IsOneOf n k → Q k)
search n Q try = search_up n Q (λ k is below. try k is)

-- below n
pub search_below : {A : Type 0} (n : ℕ) (Q : ℕ → Type 0) → ((k : ℕ) → k < n → A ⊎ Q k) → A ⊎ ((k : ℕ) → k < n → Q k)
search_below zero Q try = inr (λ k lt. absurd (omega (arith, lt)))
search_below (suc n) Q try = ⊎_elim
    (λ a. inl a)
    (λ (all : (k : ℕ) → k < n → Q k). ⊎_elim
    (λ a. inl a)
    (λ (last : Q n). inr (λ k lt. ⊎_elim
    (λ (e : k ≡ n). subst Q (sym e) last)
    (λ (e : k ≡ n → ⊥). all k (omega (arith, lt, e)))
    (cases_eq k n)))
    (try n (omega arith)))
    (search_below n Q (λ k lt. try k (omega (arith, lt))))

pub any_some : (p : ℕ → Bool) (xs : List ℕ) → list_any p xs ≡ true → (x : ℕ) × (p x ≡ true)
any_some p [] e = absurd cc
any_some p (x ∷ xs) e = ⊎_elim
    (λ (f : p x ≡ true). (x, f))
    (λ (f : list_any p xs ≡ true). any_some p xs f)
    (or_cases (p x) (list_any p xs) e)

-- a range with a number that a filter keeps
pub some_kept : (p : ℕ → Bool) (a n i : ℕ) → a ≤ i → i < a + n → p i ≡ true → 0 < length (filter p (range_with_len a n))
some_kept p a zero i low high is = absurd (omega (arith, low, high))
some_kept p a (suc n) i low high is = ⊎_elim
    (λ (on : p a ≡ true). ap_true on)
    (λ (off : p a ≡ false). ap_false off (some_kept p (a + 1) n i (⊎_elim
    (λ (e : a ≡ i). absurd (let h : true ≡ false = sym is ∙ ap p (sym e) ∙ off in cc))
    (λ (e : a ≡ i → ⊥). omega (arith, low, e))
    (cases_eq a i)) (omega (arith, high)) is))
    (cases_Bool (p a))
  where
    ap_true : p a ≡ true → 0 < length (cond (p a) (a ∷ filter p (range_with_len (a + 1) n)) (filter p (range_with_len (a + 1) n)))
    ap_true on = let e : length (cond (p a) (a ∷ filter p (range_with_len (a + 1) n)) (filter p (range_with_len (a + 1) n))) ≡ suc (length (filter p (range_with_len (a + 1) n))) = ap (λ (t : Bool). length (cond t (a ∷ filter p (range_with_len (a + 1) n)) (filter p (range_with_len (a + 1) n)))) on in omega (arith, e)

    ap_false : p a ≡ false → 0 < length (filter p (range_with_len (a + 1) n)) → 0 < length (cond (p a) (a ∷ filter p (range_with_len (a + 1) n)) (filter p (range_with_len (a + 1) n)))
    ap_false off more = let e : length (cond (p a) (a ∷ filter p (range_with_len (a + 1) n)) (filter p (range_with_len (a + 1) n))) ≡ length (filter p (range_with_len (a + 1) n)) = ap (λ (t : Bool). length (cond t (a ∷ filter p (range_with_len (a + 1) n)) (filter p (range_with_len (a + 1) n)))) off in omega (arith, e, more)

-- ---- victims

last_some : (xs : List ℕ) (o : Option ℕ) (v : ℕ) → o ≡ Some v → (w : ℕ) × (last_or o xs ≡ Some w)
last_some [] o v is = (v, is)
last_some (x ∷ xs) o v is = last_some xs (Some x) x refl

some_of : (policy : Policy) (pinned : ℕ → Bool) (ys xs : List ℕ) (b : ℕ) → unpinned pinned xs ≡ ys → has_number ys b ≡ true → (v : ℕ) × (chosen policy pinned xs ≡ Some v)
some_of policy pinned [] xs b is has = absurd cc
some_of Lru pinned (y ∷ ys) xs b is has = let l = last_some ys (Some y) y refl in (l.0, ap (last_or None) is ∙ l.1)
some_of Mru pinned (y ∷ ys) xs b is has = (y, ap (λ (zs : List ℕ). slice_get zs 0) is)

-- where an unpinned block stands in the order there is a victim
pub chosen_some : (policy : Policy) (pinned : ℕ → Bool) (xs : List ℕ) (b : ℕ) → has_number xs b ≡ true → pinned b ≡ false → (v : ℕ) × (chosen policy pinned xs ≡ Some v)
chosen_some policy pinned xs b has off = some_of policy pinned (unpinned pinned xs) xs b refl (has_filter (λ x. not (pinned x)) xs b has (ap not off))

-- ---- sums

pub total_has_one : (n k x : ℕ) (f : ℕ → ℕ) → IsOneOf n k → x ≤ f k → x ≤ total n f
total_has_one n k x f is le =
    let none = total_zero n (λ i. 0) (λ i i_is. refl) in
    let all = total_less_one n (λ i. 0) f k x is (λ i i_is ne. omega arith) (omega (arith, le)) in
    omega (arith, none, all)

pub total_only : (n k x : ℕ) (f : ℕ → ℕ) → ((i : ℕ) → IsOneOf n i → i ≢ k → f i ≡ 0) → f k ≤ x → total n f ≤ x
total_only n k x f off le =
    let none = total_zero n (λ i. 0) (λ i i_is. refl) in
    let all = total_le_one n f (λ i. 0) k x (λ i i_is ne. let e = off i i_is ne in omega (arith, e)) (omega (arith, le)) in
    omega (arith, none, all)

when_or : (a c : Bool) (n : ℕ) → when (a || c) n ≤ when a n + when c n
when_or true c n = omega arith
when_or false c n = omega arith

sum_from : (xs : List ℕ) (a : ℕ) → fold (λ b x. b + x) a xs ≡ a + fold (λ b x. b + x) 0 xs
sum_from [] a = omega arith
sum_from (x ∷ xs) a = let m = sum_from xs (a + x) in let n = sum_from xs (0 + x) in omega (arith, m, n)

-- the sum over the numbers of a list is at most that of the list
pub total_listed : (n : ℕ) (f : ℕ → ℕ) (xs : List ℕ) → total n (λ b. when (has_number xs b) (8 * f b)) ≤ 8 * sum (map f xs)
total_listed n f [] = let e = total_zero n (λ b. when (has_number [] b) (8 * f b)) (λ k is. refl) in omega (arith, e)
total_listed n f (x ∷ xs) =
    let split = total_le n (λ b. when (has_number (x ∷ xs) b) (8 * f b)) (λ b. when (eqb x b) (8 * f b) + when (has_number xs b) (8 * f b)) (λ k is. when_or (eqb x k) (has_number xs k) (8 * f k)) in
    let both = total_add n (λ b. when (eqb x b) (8 * f b)) (λ b. when (has_number xs b) (8 * f b)) in
    let one = total_only n x (8 * f x) (λ b. when (eqb x b) (8 * f b)) (λ k is ne. when_false (eqb x k) (8 * f k) (ne_eqb x k (λ e. ne (sym e)))) (when_at_most (eqb x x) (8 * f x)) in
    let rest = total_listed n f xs in
    let all : sum (map f (x ∷ xs)) ≡ (0 + f x) + sum (map f xs) = sum_from (map f xs) (0 + f x) in
    omega (arith, split, both, one, rest, all)

-- ---- the greatest of a list

max_from : (xs : List ℕ) (a : ℕ) → a ≤ fold max a xs
max_from [] a = omega arith
max_from (x ∷ xs) a = let more = max_from xs (max a x) in omega (arith, more)

pub max_has : (xs : List ℕ) (f : ℕ → ℕ) (a b : ℕ) → has_number xs b ≡ true → f b ≤ fold max a (map f xs)
max_has [] f a b has = absurd cc
max_has (x ∷ xs) f a b has = ⊎_elim
    (λ (e : eqb x b ≡ true). let same : f x ≡ f b = ap f (eqb-true x b e) in let more = max_from (map f xs) (max a (f x)) in omega (arith, same, more))
    (λ (e : has_number xs b ≡ true). max_has xs f (max a (f x)) b e)
    (or_cases (eqb x b) (has_number xs b) has)
