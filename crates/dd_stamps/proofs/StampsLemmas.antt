-- Each stamp leaves one place less to stamp.
use Rattle.std.proofs.Common.{◌≡◌, ◌≢◌, ℕ, zero, suc, ◌+◌, ◌-◌, ◌<◌, ◌≤◌, Bool, true, false, ◌&&◌, inl, inr, List, length, refl, sym, ap, ◌∙◌, arith, ⊎_elim}
use Rattle.std.specs.Prelude.{nat_le, nat_lt, if◌then◌else◌, slice_index}
use Rattle.std.proofs.lemmas.Bool.{cases_lt}
use Rattle.std.proofs.lemmas.Bool.Decides.{eqb_tells, nat_tests}
use Rattle.dd_spans.specs.PlaceMap.{PlaceMap}
use Rattle.dd_stamps.specs.Placed.{HasPlaced}
use Rattle.dd_stamps.specs.Stamps.{MayStamp, Spends, count_below, is_pending, one_if, pending}

-- no more numbers pass than there are
one_at_most : (b : Bool) → one_if b ≤ 1
one_at_most true = omega arith
one_at_most false = omega arith

pub count_few : (test : ℕ → Bool) (n : ℕ) → count_below test n ≤ n
count_few test zero = omega arith
count_few test (suc n) = omega (arith, one_at_most (test n), count_few test n)

-- the tests pass no more numbers
one_le : (a b : Bool) → (a ≡ true → b ≡ true) → one_if a ≤ one_if b
one_le false b less = omega arith
one_le true true less = omega arith
one_le true false less = let clash : false ≡ true = less refl in absurd (cc)

pub count_le : (f g : ℕ → Bool) (n : ℕ) → ((p : ℕ) → f p ≡ true → g p ≡ true) → count_below f n ≤ count_below g n
count_le f g zero less = omega arith
count_le f g (suc n) less = omega (arith, one_le (f n) (g n) (less n), count_le f g n less)

-- and one less
pub count_less : (f g : ℕ → Bool) (n place : ℕ) → ((p : ℕ) → f p ≡ true → g p ≡ true) → place < n → g place ≡ true → f place ≡ false → count_below f n + 1 ≤ count_below g n
count_less f g zero place less lt was is = absurd (omega arith)
count_less f g (suc n) place less lt was is = elim (eqb_tells n place) [
  | inl e ↦
      let one : one_if (g n) ≡ 1 = ap one_if (ap g e.1 ∙ was) in
      let none : one_if (f n) ≡ 0 = ap one_if (ap f e.1 ∙ is) in
      omega (arith, one, none, count_le f g n less)
  | inr ne ↦
      let apart : n ≢ place = ne.1 in
      let below : place < n = omega arith in
      omega (arith, one_le (f n) (g n) (less n), count_less f g n place less below was is)
]

pub count_some : (g : ℕ → Bool) (n place : ℕ) → place < n → g place ≡ true → 1 ≤ count_below g n
count_some g n place lt was = omega (arith, count_less (λ _. false) g n place (λ p e. absurd (let clash : false ≡ true = e in cc)) lt was refl)

-- a place that is to be written and has another version
pub was_pending : (written : ℕ → Bool) (task : ℕ) (versions : List ℕ) (place : ℕ) → written place ≡ true → slice_index versions place ≢ task → is_pending written task versions place ≡ true
was_pending written task versions place is_to_be other = elim (eqb_tells (slice_index versions place) task) [
  | inl h ↦ absurd (other h.1)
  | inr h ↦ rw (is_to_be, h.0) refl
]

and_false : (b : Bool) → (b && false) ≡ false
and_false true = refl
and_false false = refl

not_pending : (written : ℕ → Bool) (task : ℕ) (versions : List ℕ) (place : ℕ) → slice_index versions place ≡ task → is_pending written task versions place ≡ false
not_pending written task versions place same = elim (eqb_tells (slice_index versions place) task) [
  | inl h ↦ rw h.0 (and_false (written place))
  | inr h ↦ absurd (h.1 same)
]

-- a run of places in a list
pub run_in : (first end p : ℕ) (x y : ℕ) → first ≤ p → p < end → (if nat_le first p && nat_lt p end then x else y) ≡ x
run_in first end p x y low high = grind (arith, nat_tests)

pub run_below : (first end p : ℕ) (x y : ℕ) → p < first → (if nat_le first p && nat_lt p end then x else y) ≡ y
run_below first end p x y low = grind (arith, nat_tests)

pub run_above : (first end p : ℕ) (x y : ℕ) → end ≤ p → (if nat_le first p && nat_lt p end then x else y) ≡ y
run_above first end p x y high = grind (arith, nat_tests)

module _ (written : ℕ → Bool) (task first end : ℕ) (old new : List ℕ) where
  -- places that were set are pending no more
  pub pending_le : ((p : ℕ) → slice_index new p ≡ (if nat_le first p && nat_lt p end then task else slice_index old p)) → (p : ℕ) → is_pending written task new p ≡ true → is_pending written task old p ≡ true
  pending_le set p now = ⊎_elim
      (λ (low : p < first). let same : slice_index new p ≡ slice_index old p = set p ∙ run_below first end p task (slice_index old p) low in rw (sym same) now)
      (λ (high : first ≤ p). ⊎_elim
      (λ (lt : p < end).
      let here : slice_index new p ≡ task = set p ∙ run_in first end p task (slice_index old p) high lt in
      let no = not_pending written task new p here in
      absurd (let clash : true ≡ false = sym now ∙ no in cc))
      (λ (le : end ≤ p). let same : slice_index new p ≡ slice_index old p = set p ∙ run_above first end p task (slice_index old p) le in rw (sym same) now)
      (cases_lt p end))
      (cases_lt p first)

  -- and one of them was pending before
  pub set_less : (place : ℕ) → ((p : ℕ) → slice_index new p ≡ (if nat_le first p && nat_lt p end then task else slice_index old p)) → length new ≡ length old
      → first ≤ place → place < end → end ≤ length old → written place ≡ true → slice_index old place ≢ task → pending written task new + 1 ≤ pending written task old
  set_less place set long low lt within is_to_be other =
      let here : slice_index new place ≡ task = set place ∙ run_in first end place task (slice_index old place) low lt in
      let less = count_less (is_pending written task new) (is_pending written task old) (length old) place (pending_le set) (omega (arith, lt, within)) (was_pending written task old place is_to_be other) (not_pending written task new place here) in
      let same = ap (count_below (is_pending written task new)) long in
      omega (arith, less, same)

pub some_pending : (written : ℕ → Bool) (task : ℕ) (versions : List ℕ) (place : ℕ) → place < length versions → written place ≡ true → slice_index versions place ≢ task → 1 ≤ pending written task versions
some_pending written task versions place lt is_to_be other = count_some (is_pending written task versions) (length versions) place lt (was_pending written task versions place is_to_be other)

-- what two stamps spend
pub spends_none : (written : ℕ → Bool) (task : ℕ) (map : PlaceMap) → Spends written task map map
spends_none written task map = omega arith

pub spends_more : (written : ℕ → Bool) (task : ℕ) (a b c : PlaceMap) → Spends written task a b → Spends written task b c → Spends written task a c
spends_more written task a b c one two = omega (arith, one, two)

pub may_still : (written : ℕ → Bool) (task : ℕ) (a b : PlaceMap) → MayStamp written task a → Spends written task a b → MayStamp written task b
may_still written task a b may spends = omega (arith, may, spends)

-- one place was stamped
pub one_stamped : (place task : ℕ) (old new : List ℕ) → ((p : ℕ) → slice_index new p ≡ (if nat_le place p && nat_lt p (place + 1) then task else slice_index old p))
    → (slice_index new place ≡ task) × ((q : ℕ) → q ≢ place → slice_index new q ≡ slice_index old q)
one_stamped place task old new set = (
  set place ∙ run_in place (place + 1) place task (slice_index old place) (omega arith) (omega arith),
  λ q ne. ⊎_elim
      (λ (low : q < place). set q ∙ run_below place (place + 1) q task (slice_index old q) low)
      (λ (high : place ≤ q). set q ∙ run_above place (place + 1) q task (slice_index old q) (let apart : q ≢ place = ne in omega arith))
      (cases_lt q place),
)

-- places that follow each other were
pub run_stamped : (from end first task : ℕ) (place : ℕ → ℕ) (old new : List ℕ) → length new ≡ length old → from ≤ end
    → ((p : ℕ) → slice_index new p ≡ (if nat_le first p && nat_lt p (first + (end - from)) then task else slice_index old p))
    → ((i : ℕ) → from ≤ i → i < end → place i ≡ first + (i - from)) → HasPlaced 0 from end place (λ _. task) old new
run_stamped from end first task place old new count order set is = record {
  count = count;
  placed = λ i low lt. let here = is i low lt in set (place i) ∙ run_in first (first + (end - from)) (place i) task (slice_index old (place i)) (omega (arith, here)) (omega (arith, here, low, lt));
  others = λ q apart. ⊎_elim
      (λ (low : q < first). set q ∙ run_below first (first + (end - from)) q task (slice_index old q) low)
      (λ (high : first ≤ q). ⊎_elim
      (λ (lt : q < first + (end - from)).
      let e : first + (from + (q - first) - from) ≡ q = omega arith in
      absurd (apart (from + (q - first)) (omega arith) (omega arith) (is (from + (q - first)) (omega arith) (omega arith) ∙ e)))
      (λ (behind : first + (end - from) ≤ q). set q ∙ run_above first (first + (end - from)) q task (slice_index old q) behind)
      (cases_lt q (first + (end - from))))
      (cases_lt q first);
}
