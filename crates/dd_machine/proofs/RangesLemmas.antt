-- Lists and ranges of numbers, by tests.
use Rattle.std.proofs.Common.{◌≡◌, ℕ, zero, suc, ◌+◌, ◌<◌, ◌≤◌, Bool, true, false, cond, eqb, List, [], ◌∷◌, length, refl, ap, sym, ◌∙◌, ⊎_elim, arith}
use Rattle.std.specs.Prelude.{filter}
use Rattle.std.specs.List.{list_all, range_with_len}
use Rattle.std.proofs.lemmas.Bool.{and_from, and_parts, eqb-true, or_cases, or_left, or_right}
use Rattle.dd_machine.specs.Words.{has_number}

-- a filter keeps the numbers that pass
pub has_filter : (p : ℕ → Bool) (xs : List ℕ) (b : ℕ) → has_number xs b ≡ true → p b ≡ true → has_number (filter p xs) b ≡ true
has_filter p [] b has is = has
has_filter p (x ∷ xs) b has is = by (p x) refl (has_filter p xs b)
  where
    by : (t : Bool) → p x ≡ t → (has_number xs b ≡ true → p b ≡ true → has_number (filter p xs) b ≡ true) → has_number (cond t (x ∷ filter p xs) (filter p xs)) b ≡ true
    by true t_is more = ⊎_elim
        (λ (e : eqb x b ≡ true). or_left (eqb x b) (has_number (filter p xs) b) e)
        (λ (e : has_number xs b ≡ true). or_right (eqb x b) (has_number (filter p xs) b) (more e is))
        (or_cases (eqb x b) (has_number xs b) has)
    by false t_is more = ⊎_elim
        (λ (e : eqb x b ≡ true). absurd (let h : true ≡ false = sym is ∙ ap p (sym (eqb-true x b e)) ∙ t_is in cc))
        (λ (e : has_number xs b ≡ true). more e is)
        (or_cases (eqb x b) (has_number xs b) has)

-- a number that a filter keeps of a range
pub kept_one : (p : ℕ → Bool) (a n : ℕ) → 0 < length (filter p (range_with_len a n)) → (i : ℕ) × (a ≤ i) × (i < a + n) × (p i ≡ true)
kept_one p a zero some = absurd (omega (arith, some))
kept_one p a (suc n) some = by (p a) refl (kept_one p (a + 1) n) some
  where
    by : (t : Bool) → p a ≡ t → (0 < length (filter p (range_with_len (a + 1) n)) → (i : ℕ) × (a + 1 ≤ i) × (i < (a + 1) + n) × (p i ≡ true))
        → 0 < length (cond t (a ∷ filter p (range_with_len (a + 1) n)) (filter p (range_with_len (a + 1) n))) → (i : ℕ) × (a ≤ i) × (i < a + suc n) × (p i ≡ true)
    by true is more some = (a, omega arith, omega arith, is)
    by false is more some = let h = more some in (h.0, omega (arith, h.1), omega (arith, h.2), h.3)

-- each number of a range passes, and what each passes all pass
pub all_at : (test : ℕ → Bool) (a n i : ℕ) → list_all test (range_with_len a n) ≡ true → i < n → test (a + i) ≡ true
all_at test a zero i all lt = absurd (omega (arith, lt))
all_at test a (suc n) zero all lt = let e : a + 0 ≡ a = omega arith in ap test e ∙ (and_parts (test a) (list_all test (range_with_len (a + 1) n)) all).0
all_at test a (suc n) (suc i) all lt =
    let e : a + suc i ≡ (a + 1) + i = omega arith in
    ap test e ∙ all_at test (a + 1) n i (and_parts (test a) (list_all test (range_with_len (a + 1) n)) all).1 (omega (arith, lt))

pub all_places : (test : ℕ → Bool) (a n : ℕ) → ((i : ℕ) → i < n → test (a + i) ≡ true) → list_all test (range_with_len a n) ≡ true
all_places test a zero all = refl
all_places test a (suc n) all =
    let e : a + 0 ≡ a = omega arith in
    and_from (test a) (list_all test (range_with_len (a + 1) n)) (ap test (sym e) ∙ all 0 (omega arith))
    (all_places test (a + 1) n (λ i lt. let f : (a + 1) + i ≡ a + suc i = omega arith in ap test f ∙ all (suc i) (omega (arith, lt))))

pub all_below : (test : ℕ → Bool) (n : ℕ) → ((i : ℕ) → i < n → test i ≡ true) → list_all test (range_with_len 0 n) ≡ true
all_below test n each = all_places test 0 n (λ i lt. let e : 0 + i ≡ i = omega arith in ap test e ∙ each i lt)
