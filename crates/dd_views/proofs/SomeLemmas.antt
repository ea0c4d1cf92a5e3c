-- What isn't refused is there: a range has a span, and two ranges and a part have a view. Nothing is said of how it is found.
use Rattle.std.proofs.Common.{◌≡◌, ◌≢◌, ℕ, zero, suc, ◌+◌, ◌*◌, ◌/◌, ◌<◌, ◌≤◌, ℤ, pos, ◌-ℤ◌, ◌<ℤ◌, ◌≤ℤ◌, inl, inr, refl, sym, arith, unsigned_abs, ⊎_elim, subst}
use Rattle.std.proofs.lemmas.Int.{ints}
use Rattle.dd_views.specs.declared.bounds.Bounds.{Bounds}
use Rattle.dd_views.specs.declared.part.Part.{Part}
use Rattle.dd_views.specs.declared.range.Range.{Range}
use Rattle.dd_views.specs.declared.shape.Shape.{Shape}
use Rattle.dd_views.specs.declared.span3.Span3.{Span3}
use Rattle.dd_views.specs.declared.view.View.{View}
use Rattle.dd_views.specs.Progression.{HasPassed, IsBadRange, IsWithin, ListsCount, bounds_of, number_at}
use Rattle.dd_views.specs.Room.{IsKept, IsOpen, IsRoom}
use Rattle.dd_views.specs.Span.{IsSpanOf}
use Rattle.dd_views.specs.Views.{HasBadRange, Shows}
use Rattle.dd_views.proofs.ProgressionLemmas.{begins_outside, counts, quotient}
use Rattle.dd_views.proofs.SignedLemmas.{not_both, size_down, size_pos, size_up, step_cases, times_none}
use Rattle.dd_views.proofs.SpanLemmas.{span_of_kept}

-- a range that has passed its end at once lists nothing
nothing_listed : (b : Bounds) → HasPassed b b.first → IsSpanOf b (record { first = 1; step = pos 1; count = 0 })
nothing_listed b passed =
    let begins : number_at b 0 ≡ b.first = omega (arith, ints, times_none b.step) in
    record { counted = record { listed = λ i lt. absurd (omega arith); ended = subst (HasPassed b) (sym begins) passed }; kept = (refl, refl) }

-- how far it may go
some_room : (b : Bounds) (length : ℕ) → b.step ≢ pos 0 → IsWithin length b.first → (room : ℕ) × IsRoom b length room
some_room b length nonzero within = ⊎_elim
    (λ up. (unsigned_abs (pos length -ℤ b.first), record { up = λ _. size_up (pos length -ℤ b.first) (omega (arith, ints, within)); down = λ down. absurd (not_both b.step up down) }))
    (λ down. (unsigned_abs (b.first -ℤ pos 1), record { up = λ up. absurd (not_both b.step up down); down = λ _. size_up (b.first -ℤ pos 1) (omega (arith, ints, within)) }))
    (step_cases b.step nonzero)

kept_after : Bounds → ℕ → Span3
kept_after b zero = record { first = unsigned_abs b.first; step = pos 1; count = 1 }
kept_after b (suc n) = record { first = unsigned_abs b.first; step = b.step; count = suc (suc n) }

is_kept : (b : Bounds) (jumps : ℕ) → pos (unsigned_abs b.first) ≡ b.first → IsKept b jumps (kept_after b jumps)
unfolding kept_after
is_kept b zero first = record { first = first; one = λ _. refl; more = λ some. absurd (some refl); count = refl }
is_kept b (suc n) first = record { first = first; one = λ none. absurd (omega arith); more = λ _. refl; count = omega arith }

some_listed : (b : Bounds) (length : ℕ) → IsOpen b length → (s : Span3) × IsSpanOf b s
some_listed b length is_open =
    let far = unsigned_abs (b.last -ℤ b.first) in
    let stride = unsigned_abs b.step in
    let jumps = far / stride in
    let parts = quotient far stride (size_pos b.step is_open.nonzero) in
    let room = some_room b length is_open.nonzero is_open.within in
    let first : pos (unsigned_abs b.first) ≡ b.first = size_up b.first (omega (arith, ints, is_open.within)) in
    (kept_after b jumps, span_of_kept b jumps (kept_after b jumps) (is_kept b jumps first) (counts b length room.0 jumps is_open room.1 parts.0 parts.1))

pub some_span : (b : Bounds) (length : ℕ) → ¬ IsBadRange b length → ((s : Span3) → ¬ IsSpanOf b s) → ⊥
some_span b length good none =
    let begins : ¬ HasPassed b b.first = λ passed. none (record { first = 1; step = pos 1; count = 0 }) (nothing_listed b passed) in
    good (begins_outside b length begins (λ within.
    let found = some_listed b length (record { nonzero = λ zero_step. good (inl zero_step); begins = begins; within = within }) in
    none found.0 found.1))

pub some_view : (array : ℕ) (shape : Shape) (rows cols : Range) (part : Part) → ¬ HasBadRange shape rows cols → ((v : View) → ¬ Shows array shape rows cols part v) → ⊥
some_view array shape rows cols part good none =
    some_span (bounds_of rows shape.rows) shape.rows (λ bad. good (inl bad)) (λ r of_rows.
    some_span (bounds_of cols shape.cols) shape.cols (λ bad. good (inr bad)) (λ c of_cols.
    none (record { array = array; height = shape.rows; rows = r; cols = c; part = part }) (record { array = refl; height = refl; rows = of_rows; cols = of_cols; part = refl })))
