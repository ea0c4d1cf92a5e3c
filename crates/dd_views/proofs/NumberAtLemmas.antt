-- The number of a span at a place, by its steps from the first.
use Rattle.std.proofs.Common.{◌≡◌, ℕ, ◌+◌, ◌*◌, ◌-◌, ◌<◌, ◌≤◌, pos, ◌<ℤ◌, ap, arith, unsigned_abs}
use Rattle.std.proofs.lemmas.Int.{ints}
use Rattle.dd_views.specs.declared.span3.Span3.{Span3}
use Rattle.dd_views.specs.IndexList.{number_at_place}
use Rattle.dd_views.specs.Span.{IsSmallSpan, number}
use Rattle.dd_views.proofs.SignedLemmas.{size_up, times_down, times_up}

pub up_at : (s : Span3) (i : ℕ) → pos 0 <ℤ s.step → IsSmallSpan s → 1 ≤ i → i ≤ s.count → number_at_place s i ≡ s.first + (i - 1) * unsigned_abs s.step
up_at s i up small low high =
    let inside = small.2.within (i - 1) (omega arith) in
    let size = size_up (number s (i - 1)) (omega (arith, ints, inside.0)) in
    omega (arith, ints, size, times_up (i - 1) s.step up)

pub down_at : (s : Span3) (i : ℕ) → s.step <ℤ pos 0 → IsSmallSpan s → 1 ≤ i → i ≤ s.count → number_at_place s i + (i - 1) * unsigned_abs s.step ≡ s.first
down_at s i down small low high =
    let inside = small.2.within (i - 1) (omega arith) in
    let size = size_up (number s (i - 1)) (omega (arith, ints, inside.0)) in
    omega (arith, ints, size, times_down (i - 1) s.step down)

-- a sum of places by its steps
pub steps_sum : (a b c s : ℕ) → c ≡ a + b → c * s ≡ a * s + b * s
steps_sum a b c s e = let all : c * s ≡ (a + b) * s = ap (λ (k : ℕ). k * s) e in omega (arith, all)
