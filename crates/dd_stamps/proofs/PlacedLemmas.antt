-- Values that are put at places, one after the other.
use Rattle.std.proofs.Common.{◌≡◌, ◌≢◌, ℕ, ◌+◌, ◌-◌, ◌<◌, ◌≤◌, inl, inr, List, length, get_or, refl, sym, ap, ◌∙◌, subst, arith, ⊎_elim}
use Rattle.std.proofs.lemmas.Bool.{cases_lt}
use Rattle.std.proofs.lemmas.Bool.Decides.{eqb_tells}
use Rattle.dd_stamps.specs.Placed.{HasCopied, HasPlaced}

-- nothing was put so far
pub placed_none : {A : Type 0} (none : A) (from end : ℕ) (place : ℕ → ℕ) (given : ℕ → A) (old : List A) → end ≤ from → HasPlaced none from end place given old old
placed_none none from end place given old le = record {
  count = refl;
  placed = λ i low lt. absurd (omega arith);
  others = λ q apart. refl;
}

-- one more was put
pub placed_more : {A : Type 0} (none : A) (from i : ℕ) (place : ℕ → ℕ) (given : ℕ → A) (old mid new : List A) → HasPlaced none from i place given old mid
    → from ≤ i → length new ≡ length mid → get_or new (place i) none ≡ given i → ((q : ℕ) → q ≢ place i → get_or new q none ≡ get_or mid q none)
    → ((k : ℕ) → from ≤ k → k < i → place k ≢ place i) → HasPlaced none from (i + 1) place given old new
placed_more none from i place given old mid new so_far low count here others apart = record {
  count = count ∙ so_far.count;
  placed = λ k above lt. elim (eqb_tells k i) [
    | inl e ↦ subst (λ (n : ℕ). get_or new (place n) none ≡ given n) (sym e.1) here
    | inr ne ↦
        let other : k ≢ i = ne.1 in
        let less : k < i = omega arith in
        others (place k) (apart k above less) ∙ so_far.placed k above less
  ];
  others = λ q none_is.
      others q (λ e. none_is i low (omega arith) (sym e)) ∙ so_far.others q (λ k above lt. none_is k above (omega arith));
}

-- a copy of one value
pub one_copied : {A : Type 0} (none : A) (first at : ℕ) (other old new : List A) → HasCopied none first at 1 other old new
    → (get_or new at none ≡ get_or other first none) × ((q : ℕ) → q ≢ at → get_or new q none ≡ get_or old q none)
one_copied none first at other old new copied =
    let here : at + 0 ≡ at = omega arith in
    let there : first + 0 ≡ first = omega arith in (
      sym (ap (λ (n : ℕ). get_or new n none) here) ∙ copied.copied 0 (omega arith) ∙ ap (λ (n : ℕ). get_or other n none) there,
      λ q ne. ⊎_elim
          (λ (low : q < at). copied.before q low)
          (λ (high : at ≤ q). copied.behind q (let apart : q ≢ at = ne in omega arith))
          (cases_lt q at),
    )

-- a copy of places that follow each other
pub run_placed : {A : Type 0} (none : A) (from end first at : ℕ) (place : ℕ → ℕ) (given : ℕ → A) (other old new : List A) → HasCopied none first at (end - from) other old new
    → from ≤ end → ((i : ℕ) → from ≤ i → i < end → (place i ≡ at + (i - from)) × (given i ≡ get_or other (first + (i - from)) none))
    → HasPlaced none from end place given old new
run_placed none from end first at place given other old new copied order is = record {
  count = copied.count;
  placed = λ i low lt.
      ap (λ (n : ℕ). get_or new n none) (is i low lt).0 ∙ copied.copied (i - from) (omega arith) ∙ sym (is i low lt).1;
  others = λ q apart. ⊎_elim
      (λ (low : q < at). copied.before q low)
      (λ (high : at ≤ q). ⊎_elim
      (λ (lt : q < at + (end - from)).
      let e : at + (from + (q - at) - from) ≡ q = omega arith in
      absurd (apart (from + (q - at)) (omega arith) (omega arith) ((is (from + (q - at)) (omega arith) (omega arith)).0 ∙ e)))
      (λ (behind : at + (end - from) ≤ q). copied.behind q behind)
      (cases_lt q (at + (end - from))))
      (cases_lt q at);
}
