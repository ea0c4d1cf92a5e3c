-- How far the next of some rows are from a line, where strides and steps are multiples of a gap.
use Rattle.std.proofs.Common.{◌≡◌, ◌≢◌, ◌↔◌, ℕ, ◌≤◌, ◌<◌, ◌+◌, ◌*◌, ◌^◌, Bool, true, false, zero, suc, if◌then◌else◌, ◌==◌, ⊎_elim, refl, ap, arith}
use Rattle.std.proofs.lemmas.Bool.Decides.{nat_tests}
use Rattle.std.proofs.lemmas.Bool.{cases_lt}
use Rattle.std.proofs.Math.Nat.{mul-le-mul_right}
use Rattle.dd_views.specs.declared.part.Part.{Part}
use Rattle.dd_views.specs.declared.part.Part.TheVariants.{All, Lower, Upper, UnitLower, UnitUpper, Diag}
use Rattle.dd_views.specs.IndexList.{keeps}
use Rattle.dd_alias.specs.declared.interval.Ways.{Ways}
use Rattle.dd_alias.specs.declared.line.Line.{Line}
use Rattle.dd_alias.specs.declared.run.Run.{Run}
use Rattle.dd_alias.specs.Columns.{beyond_of, high_of, low_of}
use Rattle.dd_alias.specs.Congruence.{IsMultiple, IsOnWay, IsSame}
use Rattle.dd_alias.specs.Lines.{AreWays, Reaches, line_at}
use Rattle.dd_alias.specs.Runs.{HasNumber}

-- numbers that are some times the gap apart, and less than it, are in order
no_further : (gap x y : ℕ) → IsSame gap x y → x < y + gap → x ≤ y
no_further gap x y same less = ⊎_elim
    (λ more.
    let far = mul-le-mul_right {m = same.0 + 1} {n = same.1} gap (omega (arith, more)) in
    omega (arith, far, same.2, less))
    (λ few. omega (arith, mul-le-mul_right {m = same.1} {n = same.0} gap few, same.2))
    (cases_lt same.0 same.1)

-- no row stands between the line and the next ones
record IsClear (gap over under d r : ℕ) : Type 0 where
  above : 0 < gap
  up : d ≤ r → d + over ≤ r
  down : r ≤ d → r + under ≤ d
  next_up : over ≡ 0 → d < r → d + gap ≤ r
  next_down : under ≡ 0 → r < d → r + gap ≤ d

clear : (gap over under d r : ℕ) → 0 < gap → over < gap → under < gap → IsSame gap (d + over) r → IsMultiple gap (over + under) → IsClear gap over under d r
clear gap over under d r above near_over near_under same around = record {
  above = above;
  up = λ le. no_further gap (d + over) r same (omega (arith, le, near_over));
  down = λ le. no_further gap (r + under) d (same.1, same.0 + around.0, omega (arith, same.2, around.1)) (omega (arith, le, near_under));
  next_up = λ none less. no_further gap (d + gap) r (same.0, same.1 + 1, omega (arith, same.2, none)) (omega (arith, less));
  next_down = λ none less. no_further gap (r + gap) d (same.1, same.0 + around.0 + 1, omega (arith, same.2, around.1, none)) (omega (arith, less));
}

some_way : (way gap w : ℕ) → 0 < way → w ≡ (if way == 0 then gap else way) → w ≡ way
some_way way gap w some is = grind (arith, nat_tests)

unit_up : (gap over under d r up : ℕ) → IsClear gap over under d r → up ≡ (if over == 0 then gap else over) → (0 < up) × (d < r → d + up ≤ r)
unit_up gap zero under d r up is is_up = (omega (arith, is_up, is.above), (λ less. omega (arith, is_up, is.next_up refl less)))
unit_up gap (suc over) under d r up is is_up =
    let one = some_way (suc over) gap up (omega arith) is_up in
    (omega (arith, one), (λ less. omega (arith, one, is.up (omega (arith, less)))))

unit_down : (gap over under d r down : ℕ) → IsClear gap over under d r → down ≡ (if under == 0 then gap else under) → (0 < down) × (r < d → r + down ≤ d)
unit_down gap over zero d r down is is_down = (omega (arith, is_down, is.above), (λ less. omega (arith, is_down, is.next_down refl less)))
unit_down gap over (suc under) d r down is is_down =
    let one = some_way (suc under) gap down (omega arith) is_down in
    (omega (arith, one), (λ less. omega (arith, one, is.down (omega (arith, less)))))

kept_by : (part : Part) (gap over under up down first limit d r : ℕ) → IsClear gap over under d r → up ≡ beyond_of part over gap → down ≡ beyond_of part under gap → first ≤ r → r ≤ limit → (part ≢ All → 1 ≤ d) → (keeps part r d ≡ true) ↔ ((low_of part d up first ≤ r) × (r ≤ high_of part d down limit))
kept_by All gap over under up down first limit d r is is_up is_down low high some = ((λ e. (low, high)), (λ both. refl))
kept_by Lower gap over under up down first limit d r is is_up is_down low high some = (
  (λ e.
      let le : d ≤ r = grind (arith, nat_tests) in
      (omega (arith, is_up, is.up le), high)),
  (λ both.
      let le : d ≤ r = omega (arith, both.0) in
      grind (arith, nat_tests)),
)
kept_by Upper gap over under up down first limit d r is is_up is_down low high some = (
  (λ e.
      let le : r ≤ d = grind (arith, nat_tests) in
      (low, omega (arith, is_down, is.down le))),
  (λ both.
      let le : r ≤ d = omega (arith, both.1) in
      grind (arith, nat_tests)),
)
kept_by UnitLower gap over under up down first limit d r is is_up is_down low high some =
    let ways = unit_up gap over under d r up is is_up in (
      (λ e.
          let less : d < r = grind (arith, nat_tests) in
          (omega (arith, ways.1 less), high)),
      (λ both.
          let less : d < r = omega (arith, both.0, ways.0) in
          grind (arith, nat_tests)),
    )
kept_by UnitUpper gap over under up down first limit d r is is_up is_down low high some =
    let ways = unit_down gap over under d r down is is_down in
    let above : 1 ≤ d = some (λ e. absurd (cc)) in (
      (λ e.
          let less : r < d = grind (arith, nat_tests) in
          (low, omega (arith, ways.1 less))),
      (λ both.
          let less : r < d = omega (arith, both.1, ways.0, above) in
          grind (arith, nat_tests)),
    )
kept_by Diag gap over under up down first limit d r is is_up is_down low high some = (
  (λ e.
      let same : r ≡ d = grind (arith, nat_tests) in
      (omega (arith, is_up, same, is.up (omega (arith, same))), omega (arith, is_down, same, is.down (omega (arith, same))))),
  (λ both.
      let same : r ≡ d = omega (arith, both.0, both.1) in
      grind (arith, nat_tests)),
)

-- a row is some times the gap from where the line is
same_at : (rises : Bool) (first stride step gap over start t r : ℕ) → (rises ≡ false → t * stride ≤ first) → IsMultiple gap stride → IsMultiple gap step → IsSame gap (first + over) start → IsOnWay start step r → IsSame gap (line_at (record { first = first; stride = stride; rises = rises }) t + over) r
same_at true first stride step gap over start t r falls line steps leads on =
    let turns : t * stride ≡ t * (line.0 * gap) = ap (λ (n : ℕ). t * n) line.1 in
    let way : on.0 * step ≡ on.0 * (steps.0 * gap) = ap (λ (n : ℕ). on.0 * n) steps.1 in
    (leads.0 + on.0 * steps.0, leads.1 + t * line.0, omega (arith, turns, way, leads.2, on.1))
same_at false first stride step gap over start t r falls line steps leads on =
    let turns : t * stride ≡ t * (line.0 * gap) = ap (λ (n : ℕ). t * n) line.1 in
    let way : on.0 * step ≡ on.0 * (steps.0 * gap) = ap (λ (n : ℕ). on.0 * n) steps.1 in
    let enough = falls cc in
    (leads.0 + on.0 * steps.0 + t * line.0, leads.1, omega (arith, turns, way, leads.2, on.1, enough))

pub kept_within : (part : Part) (l : Line) (rows : Run) (w : Ways) (t r : ℕ) → AreWays part l rows w → Reaches l t → (part ≢ All → 1 ≤ line_at l t) → HasNumber rows r → (keeps part r (line_at l t) ≡ true) ↔ ((low_of part (line_at l t) w.up rows.first ≤ r) × (r ≤ high_of part (line_at l t) w.down rows.limit))
kept_within part l rows w t r ways reaches some has =
    let gap = ways.0 in
    let over = ways.1 in
    let under = ways.2 in
    let is = ways.3 in
    let same = same_at l.rises l.first l.stride rows.stride gap over rows.first t r reaches.down is.line is.steps is.leads has.0 in
    kept_by part gap over under w.up w.down rows.first rows.limit (line_at l t) r (clear gap over under (line_at l t) r is.above is.near_over is.near_under same is.around) is.up is.down (omega (arith, has.0.1)) has.1 some

beyond_few : (part : Part) (way gap : ℕ) → way < gap → beyond_of part way gap ≤ gap
beyond_few All way gap less = omega (arith, less)
beyond_few Lower way gap less = omega (arith, less)
beyond_few Upper way gap less = omega (arith, less)
beyond_few UnitLower zero gap less = omega arith
beyond_few UnitLower (suc way) gap less = omega (arith, less, some_way (suc way) gap (beyond_of UnitLower (suc way) gap) (omega arith) refl)
beyond_few UnitUpper zero gap less = omega arith
beyond_few UnitUpper (suc way) gap less = omega (arith, less, some_way (suc way) gap (beyond_of UnitUpper (suc way) gap) (omega arith) refl)
beyond_few Diag way gap less = omega (arith, less)

pub up_small : (part : Part) (l : Line) (rows : Run) (w : Ways) → AreWays part l rows w → w.up ≤ 2 ^ 63
up_small part l rows w ways = omega (arith, beyond_few part ways.1 ways.0 ways.3.near_over, ways.3.up, ways.3.small)
