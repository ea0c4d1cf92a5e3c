-- What is kept of a range says what the range lists.
use Rattle.std.proofs.Common.{◌≡◌, ℕ, zero, suc, ◌+◌, ◌*◌, ◌<◌, ◌≤◌, pos, refl, sym, arith, unsigned_abs, ⊎_elim, subst, ◌∙◌}
use Rattle.std.proofs.lemmas.Int.{ints}
use Rattle.std.proofs.lemmas.Nat.{mul-le}
use Rattle.std.proofs.lemmas.Bool.{cases_eq}
use Rattle.dd_views.specs.declared.bounds.Bounds.{Bounds}
use Rattle.dd_views.specs.declared.span3.Span3.{Span3}
use Rattle.dd_views.specs.Progression.{IsWithin, ListsCount}
use Rattle.dd_views.specs.Span.{IsSpanOf, IsSpanIn, IsKeptAs, number}
use Rattle.dd_views.specs.Room.{IsOpen, IsRoom, IsKept}
use Rattle.dd_views.proofs.SignedLemmas.{step_cases, size_pos}
use Rattle.dd_views.proofs.ProgressionLemmas.{reaches}

keeps : (b : Bounds) (jumps : ℕ) (s : Span3) → IsKept b jumps s → IsKeptAs b (suc jumps) s
keeps b zero s kept = (kept.first, kept.one refl)
keeps b (suc n) s kept = (kept.first, kept.more (omega arith))

pub span_of_kept : (b : Bounds) (jumps : ℕ) (s : Span3) → IsKept b jumps s → ListsCount b (jumps + 1) → IsSpanOf b s
span_of_kept b jumps s kept lists =
    let count : s.count ≡ suc jumps = omega (arith, kept.count) in
    record {
      counted = subst (λ (n : ℕ). ListsCount b n) (sym kept.count) lists;
      kept = subst (λ (n : ℕ). IsKeptAs b n s) (sym count) (keeps b jumps s kept);
    }

first_number : (s : Span3) (n i : ℕ) → i < 1 → IsWithin n (pos s.first) → s.step ≡ pos 1 → IsWithin n (number s i)
first_number s n zero lt inside one = rw one (omega (arith, ints), omega (arith, ints))
first_number s n (suc i) lt inside one = absurd (omega arith)

-- there are no more jumps than room
pub few_jumps : (b : Bounds) (length room jumps : ℕ) → IsOpen b length → IsRoom b length room → jumps * unsigned_abs b.step ≤ room → jumps < length
few_jumps b length room jumps is_open has_room near =
    let stride = size_pos b.step is_open.nonzero in
    let all = mul-le jumps 1 jumps (unsigned_abs b.step) (omega arith) (omega arith) in
    let inside = is_open.within in
    ⊎_elim (λ up. omega (arith, ints, has_room.up up)) (λ down. omega (arith, ints, has_room.down down)) (step_cases b.step is_open.nonzero)

pub span_in_kept : (b : Bounds) (length room jumps : ℕ) (s : Span3) → IsKept b jumps s → IsOpen b length → IsRoom b length room → jumps * unsigned_abs b.step ≤ room → IsSpanIn length s
span_in_kept b length room jumps s kept is_open has_room near =
    ⊎_elim
    (λ none.
    record {
      few = omega (arith, kept.count, few_jumps b length room jumps is_open has_room near);
      steps = λ z. absurd (omega (arith, ints, kept.one none));
      within = λ i lt. first_number s length i (omega (arith, kept.count)) (rw kept.first is_open.within) (kept.one none);
    })
    (λ some.
    record {
      few = omega (arith, kept.count, few_jumps b length room jumps is_open has_room near);
      steps = λ z. is_open.nonzero (sym (kept.more some) ∙ z);
      within = λ i lt. rw (kept.first, kept.more some) ((reaches b length room i is_open has_room).near (omega (arith, kept.count, mul-le i (unsigned_abs b.step) jumps (unsigned_abs b.step) (omega (arith, kept.count)) (omega arith))));
    })
    (cases_eq jumps 0)
