-- The numbers of a span by their places.
use Rattle.std.proofs.Common.{◌≡◌, ℕ, ◌+◌, ◌*◌, ◌-◌, ◌/◌, ◌<◌, ◌≤◌, ◌↔◌, min, max, pos, ◌<ℤ◌, ap, ⊎_elim, arith, unsigned_abs}
use Rattle.std.specs.Int.{abs_diff}
use Rattle.std.proofs.Math.Nat.{le_of_mul-le-mul_right, mul-le-mul_right}
use Rattle.dd_views.specs.declared.span3.Span3.{Span3}
use Rattle.dd_views.specs.IndexList.{number_at_place}
use Rattle.dd_views.specs.Span.{IsSmallSpan}
use Rattle.dd_views.proofs.SignedLemmas.{size_pos, step_cases}
use Rattle.dd_views.proofs.NumberAtLemmas.{down_at, steps_sum, up_at}
use Rattle.dd_views.proofs.WayLemmas.{exact}
use Rattle.dd_alias.specs.Congruence.{IsOnWay}
use Rattle.dd_alias.specs.Places.{IsAt, IsIn}

pub run_up : (s : Span3) (x : ℕ) → pos 0 <ℤ s.step → IsSmallSpan s → 0 < s.count → IsOnWay s.first (unsigned_abs s.step) x → x ≤ s.first + (s.count - 1) * unsigned_abs s.step → IsIn s x
run_up s x up small some way below =
    let few : way.0 ≤ s.count - 1 = le_of_mul-le-mul_right {m = way.0} {n = s.count - 1} {k = unsigned_abs s.step} (omega (arith, way.1)) (size_pos s.step small.2.steps) in
    let there = up_at s (way.0 + 1) up small (omega arith) (omega arith) in
    let same = steps_sum way.0 0 (way.0 + 1 - 1) (unsigned_abs s.step) (omega arith) in
    (way.0 + 1, record { low = omega arith; high = omega arith; number = omega (arith, there, way.1, same) })

pub up_run : (s : Span3) (x : ℕ) → pos 0 <ℤ s.step → IsSmallSpan s → 0 < s.count → IsIn s x → IsOnWay s.first (unsigned_abs s.step) x × (x ≤ s.first + (s.count - 1) * unsigned_abs s.step)
up_run s x up small some at =
    let there = up_at s at.0 up small at.1.low at.1.high in
    let le = mul-le-mul_right {m = at.0 - 1} {n = s.count - 1} (unsigned_abs s.step) (omega (arith, at.1.high)) in
    ((at.0 - 1, omega (arith, there, at.1.number)), omega (arith, there, at.1.number, le))

pub run_down : (s : Span3) (x : ℕ) → s.step <ℤ pos 0 → IsSmallSpan s → 0 < s.count → IsOnWay (s.first - (s.count - 1) * unsigned_abs s.step) (unsigned_abs s.step) x → x ≤ s.first → IsIn s x
run_down s x down small some way below =
    let last = down_at s s.count down small (omega arith) (omega arith) in
    let few : way.0 ≤ s.count - 1 = le_of_mul-le-mul_right {m = way.0} {n = s.count - 1} {k = unsigned_abs s.step} (omega (arith, way.1, last)) (size_pos s.step small.2.steps) in
    let there = down_at s (s.count - way.0) down small (omega arith) (omega arith) in
    let same = steps_sum way.0 (s.count - way.0 - 1) (s.count - 1) (unsigned_abs s.step) (omega arith) in
    (s.count - way.0, record { low = omega arith; high = omega arith; number = omega (arith, there, way.1, same, last) })

pub down_run : (s : Span3) (x : ℕ) → s.step <ℤ pos 0 → IsSmallSpan s → 0 < s.count → IsIn s x → IsOnWay (s.first - (s.count - 1) * unsigned_abs s.step) (unsigned_abs s.step) x × (x ≤ s.first)
down_run s x down small some at =
    let last = down_at s s.count down small (omega arith) (omega arith) in
    let there = down_at s at.0 down small at.1.low at.1.high in
    let same = steps_sum (s.count - at.0) (at.0 - 1) (s.count - 1) (unsigned_abs s.step) (omega (arith, at.1.low, at.1.high)) in
    ((s.count - at.0, omega (arith, there, at.1.number, same, last)), omega (arith, there, at.1.number))

-- how far a number is from the first
far_at : (s : Span3) (x i : ℕ) → IsSmallSpan s → IsAt s x i → (i - 1) * unsigned_abs s.step ≡ abs_diff s.first x
far_at s x i small at = ⊎_elim
    (λ up. omega (arith, up_at s i up small at.low at.high, at.number))
    (λ down. omega (arith, down_at s i down small at.low at.high, at.number))
    (step_cases s.step small.2.steps)

pub place_is : (s : Span3) (x i : ℕ) → IsSmallSpan s → IsAt s x i → abs_diff s.first x / unsigned_abs s.step + 1 ≡ i
place_is s x i small at =
    omega (arith, exact (i - 1) (unsigned_abs s.step) (abs_diff s.first x) (size_pos s.step small.2.steps) (far_at s x i small at), at.low)

-- both ways at once, for values that are those of a span
pub run_of_up : (s : Span3) (first stride count x : ℕ) → first ≡ s.first → stride ≡ unsigned_abs s.step → count ≡ s.count → pos 0 <ℤ s.step → IsSmallSpan s → 0 < s.count → (IsOnWay first stride x × (x ≤ first + (count - 1) * stride)) ↔ IsIn s x
run_of_up s first stride count x same_first same_stride same_count up small some =
    rw (same_first, same_stride, same_count) ((λ has. run_up s x up small some has.0 has.1), (λ at. up_run s x up small some at))

pub run_of_down : (s : Span3) (first stride count x : ℕ) → first ≡ s.first → stride ≡ unsigned_abs s.step → count ≡ s.count → s.step <ℤ pos 0 → IsSmallSpan s → 0 < s.count → (IsOnWay (first - (count - 1) * stride) stride x × (x ≤ first)) ↔ IsIn s x
run_of_down s first stride count x same_first same_stride same_count down small some =
    rw (same_first, same_stride, same_count) ((λ has. run_down s x down small some has.0 has.1), (λ at. down_run s x down small some at))

pub is_down : (s : Span3) → IsSmallSpan s → ¬ (pos 0 <ℤ s.step) → s.step <ℤ pos 0
is_down s small not_up = ⊎_elim (λ up. absurd (not_up up)) (λ down. down) (step_cases s.step small.2.steps)

-- numbers rise or fall with their places
pub up_order : (s : Span3) (i k : ℕ) → pos 0 <ℤ s.step → IsSmallSpan s → 1 ≤ i → i ≤ k → k ≤ s.count → number_at_place s i ≤ number_at_place s k
up_order s i k up small low le high =
    omega (arith, up_at s i up small low (omega arith), up_at s k up small (omega arith) high, mul-le-mul_right {m = i - 1} {n = k - 1} (unsigned_abs s.step) (omega arith))

pub down_order : (s : Span3) (i k : ℕ) → s.step <ℤ pos 0 → IsSmallSpan s → 1 ≤ i → i ≤ k → k ≤ s.count → number_at_place s k ≤ number_at_place s i
down_order s i k down small low le high =
    omega (arith, down_at s i down small low (omega arith), down_at s k down small (omega arith) high, mul-le-mul_right {m = i - 1} {n = k - 1} (unsigned_abs s.step) (omega arith))

pub order_up : (s : Span3) (i k : ℕ) → pos 0 <ℤ s.step → IsSmallSpan s → 1 ≤ i → i ≤ s.count → 1 ≤ k → k ≤ s.count → number_at_place s i ≤ number_at_place s k → i ≤ k
order_up s i k up small low_i high_i low_k high_k le =
    let few : i - 1 ≤ k - 1 = le_of_mul-le-mul_right {m = i - 1} {n = k - 1} {k = unsigned_abs s.step} (omega (arith, le, up_at s i up small low_i high_i, up_at s k up small low_k high_k)) (size_pos s.step small.2.steps) in
    omega arith

pub order_down : (s : Span3) (i k : ℕ) → s.step <ℤ pos 0 → IsSmallSpan s → 1 ≤ i → i ≤ s.count → 1 ≤ k → k ≤ s.count → number_at_place s k ≤ number_at_place s i → i ≤ k
order_down s i k down small low_i high_i low_k high_k le =
    let few : i - 1 ≤ k - 1 = le_of_mul-le-mul_right {m = i - 1} {n = k - 1} {k = unsigned_abs s.step} (omega (arith, le, down_at s i down small low_i high_i, down_at s k down small low_k high_k)) (size_pos s.step small.2.steps) in
    omega arith

-- a place is between two others just where its number is between theirs
pub between_numbers : (s : Span3) (p q i : ℕ) → IsSmallSpan s → 1 ≤ p → p ≤ q → q ≤ s.count → p ≤ i → i ≤ q → (min (number_at_place s p) (number_at_place s q) ≤ number_at_place s i) × (number_at_place s i ≤ max (number_at_place s p) (number_at_place s q))
between_numbers s p q i small low le high above below = ⊎_elim
    (λ up.
    let first = up_order s p i up small low above (omega arith) in
    let last = up_order s i q up small (omega arith) below high in
    (omega arith, omega arith))
    (λ down.
    let first = down_order s p i down small low above (omega arith) in
    let last = down_order s i q down small (omega arith) below high in
    (omega arith, omega arith))
    (step_cases s.step small.2.steps)

pub between_places : (s : Span3) (p q i : ℕ) → IsSmallSpan s → 1 ≤ p → p ≤ q → q ≤ s.count → 1 ≤ i → i ≤ s.count → min (number_at_place s p) (number_at_place s q) ≤ number_at_place s i → number_at_place s i ≤ max (number_at_place s p) (number_at_place s q) → (p ≤ i) × (i ≤ q)
between_places s p q i small low le high low_i high_i above below = ⊎_elim
    (λ up.
    let rise = up_order s p q up small low le high in
    (order_up s p i up small low (omega arith) low_i high_i (omega arith), order_up s i q up small low_i high_i (omega arith) high (omega arith)))
    (λ down.
    let fall = down_order s p q down small low le high in
    (order_down s p i down small low (omega arith) low_i high_i (omega arith), order_down s i q down small low_i high_i (omega arith) high (omega arith)))
    (step_cases s.step small.2.steps)

-- in steps of 1 each number between the least and the greatest is one
solid_up : (s : Span3) (x : ℕ) → pos 0 <ℤ s.step → IsSmallSpan s → 0 < s.count → unsigned_abs s.step ≡ 1 → min (number_at_place s 1) (number_at_place s s.count) ≤ x → x ≤ max (number_at_place s 1) (number_at_place s s.count) → IsIn s x
solid_up s x up small some one low high =
    let first = up_at s 1 up small (omega arith) (omega arith) in
    let last = up_at s s.count up small (omega arith) (omega arith) in
    let way : (x - s.first) * unsigned_abs s.step ≡ (x - s.first) * 1 = ap (λ (k : ℕ). (x - s.first) * k) one in
    let all : (s.count - 1) * unsigned_abs s.step ≡ (s.count - 1) * 1 = ap (λ (k : ℕ). (s.count - 1) * k) one in
    run_up s x up small some (x - s.first, omega (arith, first, last, way, all, low)) (omega (arith, first, last, all, high))

solid_down : (s : Span3) (x : ℕ) → s.step <ℤ pos 0 → IsSmallSpan s → 0 < s.count → unsigned_abs s.step ≡ 1 → min (number_at_place s 1) (number_at_place s s.count) ≤ x → x ≤ max (number_at_place s 1) (number_at_place s s.count) → IsIn s x
solid_down s x down small some one low high =
    let first = down_at s 1 down small (omega arith) (omega arith) in
    let last = down_at s s.count down small (omega arith) (omega arith) in
    let n = x - (s.first - (s.count - 1) * unsigned_abs s.step) in
    let way : n * unsigned_abs s.step ≡ n * 1 = ap (λ (k : ℕ). n * k) one in
    let all : (s.count - 1) * unsigned_abs s.step ≡ (s.count - 1) * 1 = ap (λ (k : ℕ). (s.count - 1) * k) one in
    run_down s x down small some (n, omega (arith, first, last, way, all, low)) (omega (arith, first, last, all, high))

pub solid_in : (s : Span3) (x : ℕ) → IsSmallSpan s → 0 < s.count → unsigned_abs s.step ≡ 1 → min (number_at_place s 1) (number_at_place s s.count) ≤ x → x ≤ max (number_at_place s 1) (number_at_place s s.count) → IsIn s x
solid_in s x small some one low high = ⊎_elim
    (λ up. solid_up s x up small some one low high)
    (λ down. solid_down s x down small some one low high)
    (step_cases s.step small.2.steps)
