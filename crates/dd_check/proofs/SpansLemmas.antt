-- A view whose ranges aren't refused is a view of its array.
use Rattle.std.proofs.Common.{◌≡◌, ◌≢◌, ℕ, zero, suc, ◌*◌, ◌^◌, ◌<◌, ◌≤◌, ℤ, pos, ◌*ℤ◌, refl, sym, ◌∙◌, inl, inr, ⊎_elim, arith, unsigned_abs}
use Rattle.std.specs.Prelude.{◌<ℤ◌}
use Rattle.std.proofs.lemmas.Bool.{cases_eq}
use Rattle.std.proofs.lemmas.Int.{ints}
use Rattle.std.proofs.lemmas.Nat.{mul-le}
use Rattle.dd_views.specs.declared.bounds.Bounds.{Bounds}
use Rattle.dd_views.specs.declared.part.Part.{Part}
use Rattle.dd_views.specs.declared.range.Range.{Range}
use Rattle.dd_views.specs.declared.shape.Shape.{Shape}
use Rattle.dd_views.specs.declared.span3.Span3.{Span3}
use Rattle.dd_views.specs.declared.view.View.{View}
use Rattle.dd_views.specs.Progression.{IsBadRange, IsWithin, bounds_of, number_at}
use Rattle.dd_views.specs.Span.{IsKeptAs, IsSpanIn, IsSpanOf, number}
use Rattle.dd_views.specs.Views.{HasBadRange, IsNotSquare, IsViewOf, Shows}
use Rattle.dd_views.proofs.SignedLemmas.{le_from, size_pos, step_cases, times_none, times_up, times_down}

within_stable : (length : ℕ) (x : ℤ) → ((IsWithin length x → ⊥) → ⊥) → IsWithin length x
within_stable length x not_out = (
  le_from (pos 1) x (λ low. not_out (λ inside. absurd (omega (arith, ints, low, inside.0)))),
  le_from x (pos length) (λ high. not_out (λ inside. absurd (omega (arith, ints, high, inside.1)))),
)

-- the numbers that are kept, where those of the range are within
pub record IsKeptIn (length n : ℕ) (s : Span3) : Type 0 where
  pub steps : s.step ≢ pos 0
  pub within : (i : ℕ) → i < n → IsWithin length (number s i)
  pub few : n ≤ length

few_numbers : (b : Bounds) (length n : ℕ) → b.step ≢ pos 0 → IsWithin length (number_at b 0) → IsWithin length (number_at b (suc n)) → suc (suc n) ≤ length
few_numbers b length n nonzero first last =
    let stride : 0 < unsigned_abs b.step = size_pos b.step nonzero in
    let all : suc n * 1 ≤ suc n * unsigned_abs b.step = mul-le (suc n) 1 (suc n) (unsigned_abs b.step) (omega arith) (omega arith) in
    let none : pos 0 *ℤ b.step ≡ pos 0 = times_none b.step in
    ⊎_elim
    (λ (up : pos 0 <ℤ b.step). omega (arith, ints, all, none, first.0, first.1, last.0, last.1, times_up (suc n) b.step up))
    (λ (down : b.step <ℤ pos 0). omega (arith, ints, all, none, first.0, first.1, last.0, last.1, times_down (suc n) b.step down))
    (step_cases b.step nonzero)

kept_in : (b : Bounds) (length n : ℕ) (s : Span3) → b.step ≢ pos 0 → IsKeptAs b n s → ((i : ℕ) → i < n → IsWithin length (number_at b i)) → IsKeptIn length n s
kept_in b length zero s nonzero kept each = record {
  steps = λ none. absurd (omega (arith, ints, kept.1, none));
  within = λ i lt. absurd (omega arith);
  few = omega arith;
}
kept_in b length (suc zero) s nonzero kept each =
    let first : IsWithin length (number_at b 0) = each 0 (omega arith) in
    let none : pos 0 *ℤ b.step ≡ pos 0 = times_none b.step in
    record {
      steps = λ zero_step. absurd (omega (arith, ints, kept.1, zero_step));
      within = only first none;
      few = omega (arith, ints, first.0, first.1);
    }
  where
    only : IsWithin length (number_at b 0) → pos 0 *ℤ b.step ≡ pos 0 → (i : ℕ) → i < 1 → IsWithin length (number s i)
    only first none zero lt =
        let nothing : pos 0 *ℤ s.step ≡ pos 0 = times_none s.step in
        (omega (arith, ints, first.0, none, nothing, kept.0), omega (arith, ints, first.1, none, nothing, kept.0))
    only first none (suc i) lt = absurd (omega arith)
kept_in b length (suc (suc n)) s nonzero kept each = record {
  steps = λ none. nonzero (sym kept.1 ∙ none);
  within = λ i lt. rw (kept.0, kept.1) (each i lt);
  few = few_numbers b length n nonzero (each 0 (omega arith)) (each (suc n) (omega arith));
}

pub span_in : (b : Bounds) (length : ℕ) (s : Span3) → IsSpanOf b s → (IsBadRange b length → ⊥) → IsSpanIn length s
span_in b length s is good =
    let kept : IsKeptIn length s.count s = kept_in b length s.count s (λ none. good (inl none)) is.kept
    (λ i lt. within_stable length (number_at b i) (λ out. good (inr (number_at b i, (i, refl, is.counted.listed i lt), out)))) in
    record { steps = kept.steps; within = kept.within; few = kept.few }

pub view_shown : (array : ℕ) (shape : Shape) (rows cols : Range) (part : Part) (v : View) → Shows array shape rows cols part v → (HasBadRange shape rows cols → ⊥) → (IsNotSquare shape rows cols part → ⊥) → shape.rows * shape.cols < 2 ^ 63 → IsViewOf shape v
view_shown array shape rows cols part v shows good square small = record {
  rows = span_in (bounds_of rows shape.rows) shape.rows v.rows shows.rows (λ bad. good (inl bad));
  cols = span_in (bounds_of cols shape.cols) shape.cols v.cols shows.cols (λ bad. good (inr bad));
  height = shows.height;
  square = λ other. ⊎_elim (λ (same : v.rows.count ≡ v.cols.count). same)
      (λ (differs : v.rows.count ≢ v.cols.count). absurd (square ((λ whole. other (shows.part ∙ whole)), (v.rows.count, v.cols.count, shows.rows.counted, shows.cols.counted, differs))))
      (cases_eq v.rows.count v.cols.count);
  small = small;
}
