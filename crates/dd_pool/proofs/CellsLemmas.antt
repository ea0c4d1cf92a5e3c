-- Keys that lead to entries.
use Rattle.std.proofs.Common.{◌≡◌, ◌≢◌, ℕ, ◌<◌, ◌⊎◌, inl, inr, List, length, set, refl, sym, ap, ◌∙◌, subst, Option, None, Some, get_or-set_other, get_or-set_same, Result, Ok, Err, OnOk}
use Rattle.std.specs.Prelude.{slice_index_or}
use Rattle.std.specs.Option.{option_map}
use Rattle.std.proofs.lemmas.Bool.Decides.{eqb_tells}
use Rattle.dd_pool.specs.Keys.{LeadBack, found, key_at}

-- two numbers are the same or not
pub same_or_not : (i j : ℕ) → (i ≡ j) ⊎ (i ≢ j)
same_or_not i j = elim (eqb_tells i j) [ inl h ↦ inl h.1 | inr h ↦ inr h.1 ]

module _ {A : Type 0} (at : A → ℕ) (keys : List (Option ℕ)) (slots news : List (Option A)) where
  -- a key that leads to an entry of another place is another key
  apart : (i j key other : ℕ) → LeadBack at keys slots → key_at keys i ≡ Some key → key_at keys j ≡ Some other → j ≢ i → other ≢ key
  apart i j key other back here there ne = λ e.
      let one : option_map at (slice_index_or slots other None) ≡ Some j = back j other there in
      let two : option_map at (slice_index_or slots key None) ≡ Some i = back i key here in
      let same : Some j ≡ Some i = sym one ∙ ap (λ k. option_map at (slice_index_or slots k None)) e ∙ two in
      ne (cc)

  -- a key that leads to an entry is none that led to nothing
  full : (j key other : ℕ) → LeadBack at keys slots → slice_index_or slots key None ≡ None → key_at keys j ≡ Some other → other ≢ key
  full j key other back vacant there = λ e.
      let one : option_map at (slice_index_or slots other None) ≡ Some j = back j other there in
      let two : option_map at (slice_index_or slots key None) ≡ None = ap (option_map at) vacant in
      let same : None ≡ Some j = sym two ∙ sym (ap (λ k. option_map at (slice_index_or slots k None)) e) ∙ one in
      absurd (cc)

  pub put_back : (i key : ℕ) (x : A) → i < length keys → LeadBack at keys slots → slice_index_or slots key None ≡ None
      → slice_index_or news key None ≡ Some x → ((other : ℕ) → other ≢ key → slice_index_or news other None ≡ slice_index_or slots other None) → at x ≡ i
      → LeadBack at (set keys i (Some key)) news
  put_back i key x lt back vacant new others here = λ j k there. elim (same_or_not j i) [
    | inl e ↦
        let is : Some key ≡ Some k = sym (get_or-set_same keys i (Some key) None lt) ∙ ap (λ n. key_at (set keys i (Some key)) n) (sym e) ∙ there in
        let same : key ≡ k = (cc) in
        subst (λ (n : ℕ). option_map at (slice_index_or news n None) ≡ Some j) same (ap (option_map at) new ∙ ap Some (here ∙ sym e))
    | inr ne ↦
        let was : key_at keys j ≡ Some k = sym (get_or-set_other keys i j (Some key) None ne) ∙ there in
        ap (option_map at) (others k (full j key k back vacant was)) ∙ back j k was
  ]

  pub take_back : (i key : ℕ) → i < length keys → LeadBack at keys slots → key_at keys i ≡ Some key
      → ((other : ℕ) → other ≢ key → slice_index_or news other None ≡ slice_index_or slots other None) → LeadBack at (set keys i None) news
  take_back i key lt back was others = λ j k there. elim (same_or_not j i) [
    | inl e ↦
        let is : None ≡ Some k = sym (get_or-set_same keys i None None lt) ∙ ap (λ n. key_at (set keys i None) n) (sym e) ∙ there in
        absurd (cc)
    | inr ne ↦
        let is : key_at keys j ≡ Some k = sym (get_or-set_other keys i j None None ne) ∙ there in
        ap (option_map at) (others k (apart i j key k back was is ne)) ∙ back j k is
  ]

  module _ {B : Type 0} (f : A → B) where
    same_found : (j : ℕ) (o : Option ℕ) → key_at keys j ≡ o → ((k : ℕ) → key_at keys j ≡ Some k → slice_index_or news k None ≡ slice_index_or slots k None)
        → found f news o ≡ found f slots o
    same_found j None is same = refl
    same_found j (Some k) is same = ap (option_map f) (same k is)

    pub put_others : (i key j : ℕ) → LeadBack at keys slots → slice_index_or slots key None ≡ None
        → ((other : ℕ) → other ≢ key → slice_index_or news other None ≡ slice_index_or slots other None) → j ≢ i
        → found f news (key_at (set keys i (Some key)) j) ≡ found f slots (key_at keys j)
    put_others i key j back vacant others ne =
        ap (found f news) (get_or-set_other keys i j (Some key) None ne)
        ∙ same_found j (key_at keys j) refl (λ k is. others k (full j key k back vacant is))

    pub take_others : (i key j : ℕ) → LeadBack at keys slots → key_at keys i ≡ Some key
        → ((other : ℕ) → other ≢ key → slice_index_or news other None ≡ slice_index_or slots other None) → j ≢ i
        → found f news (key_at (set keys i None) j) ≡ found f slots (key_at keys j)
    take_others i key j back was others ne =
        ap (found f news) (get_or-set_other keys i j None None ne)
        ∙ same_found j (key_at keys j) refl (λ k is. others k (apart i j key k back was is ne))

-- what follows from what holds where a call went well
pub on_ok_map : {T E : Type 0} (r : Result T E) {P Q : Type 0} → (P → Q) → OnOk r P → OnOk r Q
on_ok_map (Ok x) f h = f h
on_ok_map (Err e) f h = tt
