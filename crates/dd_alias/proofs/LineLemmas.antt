-- How the row on the diagonal moves with the column.
use Rattle.std.proofs.Common.{◌≡◌, ◌≢◌, ℕ, ◌≤◌, ◌<◌, ◌+◌, ◌*◌, ◌-◌, ◌/◌, ◌^◌, Bool, true, false, zero, suc, pos, ◌<ℤ◌, ⊎_elim, refl, ap, sym, ◌∙◌, subst, arith, unsigned_abs, min}
use Rattle.std.proofs.lemmas.Int.{ints}
use Rattle.std.specs.Bool.{MatchBool}
use Rattle.std.proofs.Math.Nat.{mul-le-mul_right}
use Rattle.dd_views.specs.declared.part.Part.TheVariants.{All}
use Rattle.dd_views.specs.declared.span3.Span3.{Span3}
use Rattle.dd_views.specs.IndexList.{number_at_place}
use Rattle.dd_views.specs.Span.{IsSmallSpan, number}
use Rattle.dd_views.proofs.SignedLemmas.{size_pos, size_up, step_cases}
use Rattle.dd_views.proofs.WayLemmas.{exact}
use Rattle.dd_alias.specs.declared.line.Line.{Line}
use Rattle.dd_alias.specs.declared.pattern.Pattern.{Pattern}
use Rattle.dd_alias.specs.declared.run.Run.{Run}
use Rattle.dd_alias.specs.Lines.{AreAlike, AreUnlike, IsDiagonal, IsTurn, Reaches, line_at, run_at}
use Rattle.dd_alias.specs.Patterns.{IsPattern}
use Rattle.dd_alias.specs.Places.{IsAt, IsIn}
use Rattle.dd_alias.specs.Runs.{HasNumber}
use Rattle.dd_alias.proofs.BandLemmas.{falling_order, rising_order}
use Rattle.dd_views.proofs.NumberAtLemmas.{down_at, steps_sum, up_at}

-- b is w beyond a where a line rises, and else w below it
abbrev pub Moves : Bool → ℕ → ℕ → ℕ → Type 0
Moves rises a b w = MatchBool rises (b ≡ a + w) (b + w ≡ a)

moves_by : (rises : Bool) (p q r s : Type 0) → MatchBool rises p q → (p → r) → (q → s) → MatchBool rises r s
moves_by true p q r s is one other = one is
moves_by false p q r s is one other = other is

moves_same : (rises : Bool) (a b w start way : ℕ) → Moves rises a b w → a ≡ start → w ≡ way → Moves rises start b way
moves_same true a b w start way moves first same = omega (arith, moves, first, same)
moves_same false a b w start way moves first same = omega (arith, moves, first, same)

moves_none : (rises : Bool) (a b w : ℕ) → a ≡ b → w ≡ 0 → Moves rises a b w
moves_none true a b w same none = omega arith
moves_none false a b w same none = omega arith

moves_small : (rises : Bool) (a b w : ℕ) → Moves rises a b w → a < 2 ^ 63 → b < 2 ^ 63 → w < 2 ^ 63
moves_small true a b w moves one other = omega (arith, moves)
moves_small false a b w moves one other = omega (arith, moves)

reach : (rises : Bool) (first stride t b : ℕ) → Moves rises first b (t * stride) → b < 2 ^ 63 → Reaches (record { first = first; stride = stride; rises = rises }) t
reach true first stride t b moves small = record { up = λ yes. omega (arith, moves); down = λ no. absurd (cc) }
reach false first stride t b moves small = record { up = λ no. absurd (cc); down = λ yes. omega (arith, moves) }

comes_to : (rises : Bool) (first stride t b : ℕ) → Moves rises first b (t * stride) → line_at (record { first = first; stride = stride; rises = rises }) t ≡ b
comes_to true first stride t b moves = sym moves
comes_to false first stride t b moves = omega (arith, moves)

-- two numbers of a span are some times its step apart
whole_up : (s : Span3) (x way i k : ℕ) → pos 0 <ℤ s.step → IsSmallSpan s → IsAt s x i → IsAt s (x + way) k → way ≡ way / unsigned_abs s.step * unsigned_abs s.step
whole_up s x way i k up small one other =
    let order : i ≤ k = (rising_order s x (x + way) i k up small one other).1 (omega arith) in
    let sum = steps_sum (i - 1) (k - i) (k - 1) (unsigned_abs s.step) (omega (arith, one.low, order)) in
    let is : (k - i) * unsigned_abs s.step ≡ way = omega (arith, sum, up_at s i up small one.low one.high, up_at s k up small other.low other.high, one.number, other.number) in
    let turns : way / unsigned_abs s.step ≡ k - i = exact (k - i) (unsigned_abs s.step) way (size_pos s.step small.2.steps) is in
    rw turns (sym is)

whole_down : (s : Span3) (x way i k : ℕ) → s.step <ℤ pos 0 → IsSmallSpan s → IsAt s x i → IsAt s (x + way) k → way ≡ way / unsigned_abs s.step * unsigned_abs s.step
whole_down s x way i k down small one other =
    let order : k ≤ i = (falling_order s (x + way) x k i down small other one).1 (omega arith) in
    let sum = steps_sum (k - 1) (i - k) (i - 1) (unsigned_abs s.step) (omega (arith, other.low, order)) in
    let is : (i - k) * unsigned_abs s.step ≡ way = omega (arith, sum, down_at s i down small one.low one.high, down_at s k down small other.low other.high, one.number, other.number) in
    let turns : way / unsigned_abs s.step ≡ i - k = exact (i - k) (unsigned_abs s.step) way (size_pos s.step small.2.steps) is in
    rw turns (sym is)

pub whole_way : (s : Span3) (x way i k : ℕ) → IsSmallSpan s → IsAt s x i → IsAt s (x + way) k → way ≡ way / unsigned_abs s.step * unsigned_abs s.step
whole_way s x way i k small one other = ⊎_elim
    (λ up. whole_up s x way i k up small one other)
    (λ down. whole_down s x way i k down small one other)
    (step_cases s.step small.2.steps)

-- the place after some turns of q places
places_up : (s : Span3) (x q t way i k : ℕ) → pos 0 <ℤ s.step → IsSmallSpan s → way ≡ q * unsigned_abs s.step → IsAt s x i → IsAt s (x + t * way) k → k ≡ i + t * q
places_up s x q t way i k up small whole one other =
    let above = size_pos s.step small.2.steps in
    let far : t * way ≡ t * (q * unsigned_abs s.step) = ap (λ (n : ℕ). t * n) whole in
    let same : (i - 1 + t * q) * unsigned_abs s.step ≡ (k - 1) * unsigned_abs s.step = omega (arith, far, up_at s i up small one.low one.high, up_at s k up small other.low other.high, one.number, other.number) in
    let turns = exact (i - 1 + t * q) (unsigned_abs s.step) ((k - 1) * unsigned_abs s.step) above same in
    let turns_k = exact (k - 1) (unsigned_abs s.step) ((k - 1) * unsigned_abs s.step) above refl in
    omega (arith, turns, turns_k, one.low, other.low)

places_down : (s : Span3) (x q t way i k : ℕ) → s.step <ℤ pos 0 → IsSmallSpan s → way ≡ q * unsigned_abs s.step → IsAt s x i → IsAt s (x + t * way) k → i ≡ k + t * q
places_down s x q t way i k down small whole one other =
    let above = size_pos s.step small.2.steps in
    let far : t * way ≡ t * (q * unsigned_abs s.step) = ap (λ (n : ℕ). t * n) whole in
    let same : (k - 1 + t * q) * unsigned_abs s.step ≡ (i - 1) * unsigned_abs s.step = omega (arith, far, down_at s i down small one.low one.high, down_at s k down small other.low other.high, one.number, other.number) in
    let turns = exact (k - 1 + t * q) (unsigned_abs s.step) ((i - 1) * unsigned_abs s.step) above same in
    let turns_i = exact (i - 1) (unsigned_abs s.step) ((i - 1) * unsigned_abs s.step) above refl in
    omega (arith, turns, turns_i, one.low, other.low)

-- the number some places on
numbers_up : (s : Span3) (i m k : ℕ) → pos 0 <ℤ s.step → IsSmallSpan s → 1 ≤ i → k ≡ i + m → k ≤ s.count → number_at_place s k ≡ number_at_place s i + m * unsigned_abs s.step
numbers_up s i m k up small low is high =
    omega (arith, steps_sum (i - 1) m (k - 1) (unsigned_abs s.step) (omega (arith, is, low)), up_at s i up small low (omega arith), up_at s k up small (omega arith) high)

numbers_down : (s : Span3) (i m k : ℕ) → s.step <ℤ pos 0 → IsSmallSpan s → 1 ≤ i → k ≡ i + m → k ≤ s.count → number_at_place s k + m * unsigned_abs s.step ≡ number_at_place s i
numbers_down s i m k down small low is high =
    omega (arith, steps_sum (i - 1) m (k - 1) (unsigned_abs s.step) (omega (arith, is, low)), down_at s i down small low (omega arith), down_at s k down small (omega arith) high)

-- the first column of a run is at a place of the columns, and so is that of the turn t
pub record IsTurned (rows cols : Span3) (x q t way i k : ℕ) : Type 0 where
  pub small_rows : IsSmallSpan rows
  pub small_cols : IsSmallSpan cols
  pub square : rows.count ≡ cols.count
  pub whole : way ≡ q * unsigned_abs cols.step
  pub one : IsAt cols x i
  pub other : IsAt cols (x + t * way) k

alike : (rows cols : Span3) (x q t way i k : ℕ) → IsTurned rows cols x q t way i k → AreAlike rows cols → number_at_place rows k ≡ number_at_place rows i + t * q * unsigned_abs rows.step
alike rows cols x q t way i k turned same = ⊎_elim
    (λ up. numbers_up rows i (t * q) k up.0 turned.small_rows turned.one.low (places_up cols x q t way i k up.1 turned.small_cols turned.whole turned.one turned.other) (omega (arith, turned.square, turned.other.high)))
    (λ down.
    let there = numbers_down rows k (t * q) i down.0 turned.small_rows turned.other.low (places_down cols x q t way i k down.1 turned.small_cols turned.whole turned.one turned.other) (omega (arith, turned.square, turned.one.high)) in
    sym there)
    same

unlike : (rows cols : Span3) (x q t way i k : ℕ) → IsTurned rows cols x q t way i k → AreUnlike rows cols → number_at_place rows k + t * q * unsigned_abs rows.step ≡ number_at_place rows i
unlike rows cols x q t way i k turned other = ⊎_elim
    (λ up.
    let there = numbers_up rows k (t * q) i up.0 turned.small_rows turned.other.low (places_down cols x q t way i k up.1 turned.small_cols turned.whole turned.one turned.other) (omega (arith, turned.square, turned.one.high)) in
    sym there)
    (λ down. numbers_down rows i (t * q) k down.0 turned.small_rows turned.one.low (places_up cols x q t way i k down.1 turned.small_cols turned.whole turned.one turned.other) (omega (arith, turned.square, turned.other.high)))
    other

pub number_small : (s : Span3) (i : ℕ) → IsSmallSpan s → 1 ≤ i → i ≤ s.count → number_at_place s i < 2 ^ 63
number_small s i small low high =
    let inside = small.2.within (i - 1) (omega arith) in
    let size = size_up (number s (i - 1)) (omega (arith, ints, inside.0)) in
    omega (arith, ints, size, inside.1, small.1)

pub number_above : (s : Span3) (i : ℕ) → IsSmallSpan s → 1 ≤ i → i ≤ s.count → 1 ≤ number_at_place s i
number_above s i small low high =
    let inside = small.2.within (i - 1) (omega arith) in
    let size = size_up (number s (i - 1)) (omega (arith, ints, inside.0)) in
    omega (arith, ints, size, inside.0)

-- the line begins at the row of the place i, that of the first column, and moves with the columns
pub record Begins (p : Pattern) (cols : Run) (l : Line) (i : ℕ) : Type 0 where
  pub pattern : IsPattern p
  pub part : p.part ≢ All
  pub within : (x : ℕ) → HasNumber cols x → IsIn p.cols x
  pub at : IsAt p.cols cols.first i
  pub only : (k : ℕ) → IsAt p.cols cols.first k → k ≡ i
  pub first : l.first ≡ number_at_place p.rows i
  pub stride : l.stride ≡ min (cols.stride / unsigned_abs p.cols.step * unsigned_abs p.rows.step) (2 ^ 64 - 1)
  pub rises : MatchBool l.rises (AreAlike p.rows p.cols) (AreUnlike p.rows p.cols)

moves_turned : (p : Pattern) (cols : Run) (l : Line) (i q t k : ℕ) → Begins p cols l i → cols.stride ≡ q * unsigned_abs p.cols.step → IsAt p.cols (run_at cols t) k → Moves l.rises (number_at_place p.rows i) (number_at_place p.rows k) (t * q * unsigned_abs p.rows.step)
moves_turned p cols l i q t k begins whole at =
    let turned : IsTurned p.rows p.cols cols.first q t cols.stride i k = record { small_rows = begins.pattern.rows; small_cols = begins.pattern.cols; square = begins.pattern.square begins.part; whole = whole; one = begins.at; other = at } in
    moves_by l.rises (AreAlike p.rows p.cols) (AreUnlike p.rows p.cols) _ _ begins.rises (alike p.rows p.cols cols.first q t cols.stride i k turned) (unlike p.rows p.cols cols.first q t cols.stride i k turned)

moves_first : (p : Pattern) (cols : Run) (l : Line) (i k : ℕ) → Begins p cols l i → IsAt p.cols (run_at cols 0) k → Moves l.rises l.first (number_at_place p.rows k) (0 * l.stride)
moves_first p cols l i k begins at =
    let here : run_at cols 0 ≡ cols.first = omega arith in
    let same = begins.only k (subst (λ (x : ℕ). IsAt p.cols x k) here at) in
    moves_none l.rises l.first (number_at_place p.rows k) (0 * l.stride) (begins.first ∙ ap (λ (n : ℕ). number_at_place p.rows n) (sym same)) (omega arith)

moves_on : (p : Pattern) (cols : Run) (l : Line) (i t k : ℕ) → Begins p cols l i → 1 ≤ t → IsTurn cols t → IsAt p.cols (run_at cols t) k → Moves l.rises l.first (number_at_place p.rows k) (t * l.stride)
moves_on p cols l i t k begins some turn at =
    let square = begins.pattern.square begins.part in
    let before : 1 * cols.stride ≤ t * cols.stride = mul-le-mul_right {m = 1} {n = t} cols.stride some in
    let next = begins.within (run_at cols 1) ((1, refl), omega (arith, turn, before)) in
    let q = cols.stride / unsigned_abs p.cols.step in
    let second : run_at cols 1 ≡ cols.first + cols.stride = omega arith in
    let whole : cols.stride ≡ q * unsigned_abs p.cols.step = whole_way p.cols cols.first cols.stride i next.0 begins.pattern.cols begins.at (subst (λ (x : ℕ). IsAt p.cols x next.0) second next.1) in
    let once = moves_turned p cols l i q 1 next.0 begins whole next.1 in
    let small : 1 * q * unsigned_abs p.rows.step < 2 ^ 63 = moves_small l.rises _ _ _ once (number_small p.rows i begins.pattern.rows begins.at.low (omega (arith, square, begins.at.high))) (number_small p.rows next.0 begins.pattern.rows next.1.low (omega (arith, square, next.1.high))) in
    let stride : l.stride ≡ q * unsigned_abs p.rows.step = omega (arith, begins.stride, small) in
    let way : t * l.stride ≡ t * (q * unsigned_abs p.rows.step) = ap (λ (n : ℕ). t * n) stride in
    moves_same l.rises _ _ _ l.first (t * l.stride) (moves_turned p cols l i q t k begins whole at) (sym begins.first) (omega (arith, way))

moves_at : (p : Pattern) (cols : Run) (l : Line) (i t k : ℕ) → Begins p cols l i → IsTurn cols t → IsAt p.cols (run_at cols t) k → Moves l.rises l.first (number_at_place p.rows k) (t * l.stride)
moves_at p cols l i zero k begins turn at = moves_first p cols l i k begins at
moves_at p cols l i (suc t) k begins turn at = moves_on p cols l i (suc t) k begins (omega arith) turn at

pub begins_diagonal : (p : Pattern) (cols : Run) (l : Line) (i : ℕ) → Begins p cols l i → IsDiagonal p cols l
begins_diagonal p cols l i begins =
    let square = begins.pattern.square begins.part in
    record {
      reaches = λ t turn.
          let there = begins.within (run_at cols t) ((t, refl), turn) in
          reach l.rises l.first l.stride t (number_at_place p.rows there.0) (moves_at p cols l i t there.0 begins turn there.1) (number_small p.rows there.0 begins.pattern.rows there.1.low (omega (arith, square, there.1.high)));
      at = λ t j part turn col.
          record { low = col.low; high = omega (arith, square, col.high); number = sym (comes_to l.rises l.first l.stride t (number_at_place p.rows j) (moves_at p cols l i t j begins turn col)) };
    }
