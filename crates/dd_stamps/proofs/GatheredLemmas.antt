-- One column more.
use Rattle.std.proofs.Common.{◌≡◌, ℕ, ◌+◌, ◌-◌, ◌<◌, ◌≤◌, ℤ, pos, Bool, true, false, cond, inl, inr, List, get_or, refl, sym, ap, ◌∙◌, arith, ⊎_elim}
use Rattle.std.specs.Prelude.{nat_eq}
use Rattle.std.proofs.lemmas.Bool.{cases_Bool, cases_lt}
use Rattle.std.proofs.lemmas.Bool.Decides.{eqb_tells}
use Rattle.dd_stamps.specs.Placed.{HasPlaced}

-- the first places have what they get, and the others what they had
pub record IsGathering (f : ℕ → Bool) (v : ℕ → ℤ) (at : ℕ) (old mid : List ℤ) : Type 0 where
  pub done : (k : ℕ) → k < at → get_or mid k (pos 0) ≡ cond (f k) (v k) (get_or old k (pos 0))
  pub left : (k : ℕ) → at ≤ k → get_or mid k (pos 0) ≡ get_or old k (pos 0)

pub gathering_none : (f : ℕ → Bool) (v : ℕ → ℤ) (old : List ℤ) → IsGathering f v 0 old old
gathering_none f v old = record { done = λ k lt. absurd (omega arith); left = λ k le. refl }

pub column_gathered : (f : ℕ → Bool) (v : ℕ → ℤ) (at count from end : ℕ) (given : ℕ → ℤ) (old mid new : List ℤ) → IsGathering f v at old mid
    → HasPlaced (pos 0) from end (λ i. at + i) given mid new → end ≤ count
    → ((i : ℕ) → i < count → f (at + i) ≡ true → (from ≤ i) × (i < end))
    → ((i : ℕ) → from ≤ i → i < end → (f (at + i) ≡ true) × (given i ≡ v (at + i)))
    → IsGathering f v (at + count) old new
column_gathered f v at count from end given old mid new so_far placed few others is = record {
  done = λ k lt. ⊎_elim
      (λ (low : k < at). placed.others k (λ i above less e. absurd (omega (arith, e, low))) ∙ so_far.done k low)
      (λ (high : at ≤ k).
      let e : at + (k - at) ≡ k = omega arith in
      let less : k - at < count = omega arith in
      ⊎_elim
      (λ (yes : f k ≡ true).
      let there = others (k - at) less (ap f e ∙ yes) in
      rw yes (sym (ap (λ (n : ℕ). get_or new n (pos 0)) e) ∙ placed.placed (k - at) there.0 there.1 ∙ (is (k - at) there.0 there.1).1 ∙ ap v e))
      (λ (no : f k ≡ false).
      rw no (placed.others k (λ i above lt_end same. let clash : true ≡ false = sym (is i above lt_end).0 ∙ ap f same ∙ no in absurd (cc)) ∙ so_far.left k high))
      (cases_Bool (f k)))
      (cases_lt k at);
  left = λ k le. placed.others k (λ i above less e. absurd (omega (arith, e, le, less, few))) ∙ so_far.left k (omega arith);
}

pub same_numbers : (a b : ℕ) → nat_eq a b ≡ true → a ≡ b
same_numbers a b is = elim (eqb_tells a b) [ inl h ↦ h.1 | inr h ↦ absurd (let clash : true ≡ false = sym is ∙ h.0 in cc) ]
