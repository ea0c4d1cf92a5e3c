-- Numbers by their way from the first.
use Rattle.std.proofs.Common.{◌≡◌, ℕ, ◌+◌, ◌*◌, ◌-◌, ◌/◌, ◌<◌, ◌≤◌, pos, inl, inr, ap, ◌∙◌, arith, unsigned_abs, ⊎_elim}
use Rattle.std.proofs.lemmas.Int.{ints}
use Rattle.std.proofs.lemmas.Nat.{div-mul-add}
use Rattle.dd_views.specs.declared.span3.Span3.{Span3}
use Rattle.dd_views.specs.IndexList.{number_at_place}
use Rattle.dd_views.specs.Places.{IsWay}
use Rattle.dd_views.specs.Span.{IsSmallSpan, number}
use Rattle.dd_views.proofs.SignedLemmas.{step_cases, not_both, times_up, times_down, size_up, size_pos}

-- a number that a span has is its way beyond the first
pub way_of : (s : Span3) (index k : ℕ) → IsSmallSpan s → 1 ≤ k → k ≤ s.count → number_at_place s k ≡ index + 1 → IsWay s index ((k - 1) * unsigned_abs s.step)
way_of s index k small low high here =
    let inside = small.2.within (k - 1) (omega arith) in
    let size = size_up (number s (k - 1)) (omega (arith, ints, inside.0)) in
    ⊎_elim
    (λ up. inl (up, omega (arith, ints, size, here, times_up (k - 1) s.step up)))
    (λ down. inr (down, omega (arith, ints, size, here, times_down (k - 1) s.step down)))
    (step_cases s.step small.2.steps)

pub way_back : (s : Span3) (index i : ℕ) → IsWay s index (i * unsigned_abs s.step) → unsigned_abs (number s i) ≡ index + 1
way_back s index i way = ⊎_elim
    (λ w. let here : number s i ≡ pos (index + 1) = omega (arith, ints, w.1, times_up i s.step w.0) in ap unsigned_abs here)
    (λ w. let here : number s i ≡ pos (index + 1) = omega (arith, ints, w.1, times_down i s.step w.0) in ap unsigned_abs here)
    way

pub one_way : (s : Span3) (index a b : ℕ) → IsWay s index a → IsWay s index b → a ≡ b
one_way s index a b wa wb = ⊎_elim
    (λ x. ⊎_elim (λ y. omega (arith, x.1, y.1)) (λ y. absurd (not_both s.step x.0 y.0)) wb)
    (λ x. ⊎_elim (λ y. absurd (not_both s.step y.0 x.0)) (λ y. omega (arith, x.1, y.1)) wb)
    wa

pub exact : (q s w : ℕ) → 0 < s → q * s ≡ w → w / s ≡ q
exact q s w stride e = let zero_more : w ≡ q * s + 0 = omega arith in rw zero_more (div-mul-add q s 0 stride)

-- the one place that a number may have
pub only_place : (s : Span3) (index way k stride : ℕ) → stride ≡ unsigned_abs s.step → IsSmallSpan s → IsWay s index way → 1 ≤ k → k ≤ s.count → number_at_place s k ≡ index + 1 → (k ≡ way / stride + 1) × (way / stride * stride ≡ way)
only_place s index way k stride size small is_way low high here =
    let same : (k - 1) * stride ≡ way = rw size (one_way s index ((k - 1) * unsigned_abs s.step) way (way_of s index k small low high here) is_way) in
    let jumps : way / stride ≡ k - 1 = exact (k - 1) stride way (rw size (size_pos s.step small.2.steps)) same in
    (omega (arith, jumps), rw jumps same)

pub place_found : (s : Span3) (index way stride : ℕ) → stride ≡ unsigned_abs s.step → IsSmallSpan s → IsWay s index way → way / stride * stride ≡ way → number_at_place s (way / stride + 1) ≡ index + 1
place_found s index way stride size small is_way whole =
    let here : unsigned_abs (number s (way / stride)) ≡ index + 1 = way_back s index (way / stride) (rw (← size, whole) is_way) in
    let back : way / stride + 1 - 1 ≡ way / stride = omega arith in
    ap (λ (i : ℕ). unsigned_abs (number s i)) back ∙ here
