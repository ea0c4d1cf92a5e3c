-- Numbers of a list that are set to one value, step by step.
use Rattle.std.proofs.Common.{◌≡◌, ◌≢◌, ℕ, ◌<◌, Bool, true, false, ◌||◌, cond, eqb, List, length, get_or, set, refl, sym, ap, ◌∙◌, ⊎_elim}
use Rattle.std.proofs.lemmas.Bool.Decides.{eqb_tells}
use Rattle.std.proofs.lemmas.Grind.{get_or-set_at}
use Rattle.std.proofs.lemmas.List.{get_or-set_other, length-set}
use Rattle.dd_history.specs.Sets.{IsSetWhere}

pub set_none : (p : ℕ → Bool) (value : ℕ) (numbers : List ℕ) → ((q : ℕ) → p q ≡ false) → IsSetWhere p value numbers numbers
set_none p value numbers none = record { len = refl; each = λ q. rw (none q) refl }

pub set_one : (k value : ℕ) (numbers : List ℕ) → k < length numbers → IsSetWhere (λ q. eqb k q) value numbers (set numbers k value)
set_one k value numbers lt = record {
  len = length-set numbers k value;
  each = λ q. ⊎_elim
      (λ (here : (eqb k q ≡ true) × (k ≡ q)). rw here.0 (get_or-set_at numbers k q value 0 (sym here.1) lt))
      (λ (apart : (eqb k q ≡ false) × (k ≢ q)). rw apart.0 (get_or-set_other numbers k q value 0 (λ e. apart.1 (sym e))))
      (eqb_tells k q);
}

two_tests : (a b : Bool) (value before between after : ℕ) → between ≡ cond a value before → after ≡ cond b value between → after ≡ cond (a || b) value before
two_tests true true value before between after first then = then
two_tests true false value before between after first then = then ∙ first
two_tests false true value before between after first then = then
two_tests false false value before between after first then = then ∙ first

pub set_then : (p r : ℕ → Bool) (value : ℕ) (before between after : List ℕ) → IsSetWhere p value before between → IsSetWhere r value between after → IsSetWhere (λ q. p q || r q) value before after
set_then p r value before between after first then = record {
  len = then.len ∙ first.len;
  each = λ q. two_tests (p q) (r q) value (get_or before q 0) (get_or between q 0) (get_or after q 0) (first.each q) (then.each q);
}

pub set_same : (p r : ℕ → Bool) (value : ℕ) (before after : List ℕ) → ((q : ℕ) → p q ≡ r q) → IsSetWhere p value before after → IsSetWhere r value before after
set_same p r value before after same is = record {
  len = is.len;
  each = λ q. is.each q ∙ ap (λ (b : Bool). cond b value (get_or before q 0)) (same q);
}
