-- Bounds that move evenly from turn to turn keep their order between two turns.
use Rattle.std.proofs.Common.{◌≡◌, ℕ, ◌≤◌, ◌<◌, ◌+◌, ◌*◌, ◌-◌, Bool, true, false, zero, suc, ⊎_elim, ap, sym, subst, arith}
use Rattle.std.proofs.lemmas.Bool.{cases_lt}
use Rattle.std.proofs.Math.Nat.{eq-or-lt_of_le, le_of_mul-le-mul_right, mul-le-mul_right}
use Rattle.dd_views.specs.declared.part.Part.{Part}
use Rattle.dd_views.specs.declared.part.Part.TheVariants.{All, Lower, Upper, UnitLower, UnitUpper, Diag}
use Rattle.dd_alias.specs.declared.band.Band.{Band}
use Rattle.dd_alias.specs.declared.line.Line.{Line}
use Rattle.dd_alias.specs.declared.run.Run.{Run}
use Rattle.dd_alias.specs.Columns.{high_of, low_of}
use Rattle.dd_alias.specs.Lines.{AreApartAt, IsBelow, IsWithin, KeepBoth, Reaches, StaysBelow, high_at, line_at, low_at}

-- y is i parts of the way from x to z, of i + k
abbrev pub IsOnStraight : ℕ → ℕ → ℕ → ℕ → ℕ → Type 0
IsOnStraight i k x y z = y * (i + k) ≡ x * k + z * i

rising : (i k x w : ℕ) → (x + i * w) * (i + k) ≡ x * k + (x + (i + k) * w) * i
rising i k x w = omega arith

falling : (i k z w : ℕ) → (z + k * w) * (i + k) ≡ (z + (i + k) * w) * k + z * i
falling i k z w = omega arith

on_rising : (i k x y z w : ℕ) → y ≡ x + i * w → z ≡ x + (i + k) * w → IsOnStraight i k x y z
on_rising i k x y z w is_y is_z = rw (is_y, is_z) (rising i k x w)

on_falling : (i k x y z w : ℕ) → y ≡ z + k * w → x ≡ z + (i + k) * w → IsOnStraight i k x y z
on_falling i k x y z w is_y is_x = rw (is_y, is_x) (falling i k z w)

on_line : (rises : Bool) (first stride p i k : ℕ) → (rises ≡ false → (p + i + k) * stride ≤ first) → IsOnStraight i k (line_at (record { first = first; stride = stride; rises = rises }) p) (line_at (record { first = first; stride = stride; rises = rises }) (p + i)) (line_at (record { first = first; stride = stride; rises = rises }) (p + i + k))
on_line true first stride p i k down = on_rising i k _ _ _ stride (omega arith) (omega arith)
on_line false first stride p i k down =
    let enough = down cc in
    on_falling i k _ _ _ stride (omega arith) (omega arith)

line_straight : (l : Line) (p i k : ℕ) → Reaches l (p + i + k) → IsOnStraight i k (line_at l p) (line_at l (p + i)) (line_at l (p + i + k))
line_straight l p i k reaches = on_line l.rises l.first l.stride p i k reaches.down

less_by : (x k gap : ℕ) → x * k ≤ (x - gap) * k + gap * k
less_by x k gap = omega (arith, mul-le-mul_right {m = x} {n = x - gap + gap} k (omega arith))

gap_less : (i k x y z gap : ℕ) → IsOnStraight i k x y z → (y - gap) * (i + k) ≤ (x - gap) * k + (z - gap) * i
gap_less i k x y z gap straight = ⊎_elim
    (λ less.
    let none : (y - gap) * (i + k) ≡ 0 * (i + k) = ap (λ (n : ℕ). n * (i + k)) (omega (arith, less)) in
    omega (arith, none))
    (λ more.
    let whole : y * (i + k) ≡ (y - gap + gap) * (i + k) = ap (λ (n : ℕ). n * (i + k)) (omega (arith, more)) in
    omega (arith, straight, whole, less_by x k gap, less_by z i gap))
    (cases_lt y gap)

high_straight : (part : Part) (down last i k x y z : ℕ) → IsOnStraight i k x y z → high_of part y down last * (i + k) ≤ high_of part x down last * k + high_of part z down last * i
high_straight All down last i k x y z straight = omega arith
high_straight Lower down last i k x y z straight = omega arith
high_straight Upper down last i k x y z straight = gap_less i k x y z down straight
high_straight UnitLower down last i k x y z straight = omega arith
high_straight UnitUpper down last i k x y z straight = gap_less i k x y z down straight
high_straight Diag down last i k x y z straight = gap_less i k x y z down straight

low_straight : (part : Part) (up first i k x y z : ℕ) → IsOnStraight i k x y z → low_of part x up first * k + low_of part z up first * i ≤ low_of part y up first * (i + k)
low_straight All up first i k x y z straight = omega arith
low_straight Lower up first i k x y z straight = omega (arith, straight)
low_straight Upper up first i k x y z straight = omega arith
low_straight UnitLower up first i k x y z straight = omega (arith, straight)
low_straight UnitUpper up first i k x y z straight = omega arith
low_straight Diag up first i k x y z straight = omega (arith, straight)

keeps_order : (i k xp xt xq yp yt yq : ℕ) → 0 < i + k → xt * (i + k) ≤ xp * k + xq * i → yp * k + yq * i ≤ yt * (i + k) → xp < yp → xq < yq → xt < yt
keeps_order i k xp xt xq yp yt yq some x y one other =
    let first = mul-le-mul_right {m = xp + 1} {n = yp} k (omega (arith, one)) in
    let last = mul-le-mul_right {m = xq + 1} {n = yq} i (omega (arith, other)) in
    let here : xt + 1 ≤ yt = le_of_mul-le-mul_right {m = xt + 1} {n = yt} {k = i + k} (omega (arith, x, y, first, last)) some in
    omega (arith, here)

-- both bands are at rows of theirs at the turn
pub record AreWithin (a b : Band) (rows : Run) (t : ℕ) : Type 0 where
  pub one : IsWithin a rows t
  pub other : IsWithin b rows t

turned : {a b : Band} {rows : Run} {t : ℕ} → AreWithin a b rows t → AreWithin b a rows t
turned at = record { one = at.other; other = at.one }

below_on : (a b : Band) (rows : Run) (p i k : ℕ) → 0 < i + k → AreWithin a b rows (p + i + k) → IsBelow a b rows p → IsBelow a b rows (p + i + k) → IsBelow a b rows (p + i)
below_on a b rows p i k some at_q one other =
    keeps_order i k (high_at a rows p) (high_at a rows (p + i)) (high_at a rows (p + i + k)) (low_at b rows p) (low_at b rows (p + i)) (low_at b rows (p + i + k)) some (high_straight a.part a.ways.down rows.limit i k (line_at a.diagonal p) (line_at a.diagonal (p + i)) (line_at a.diagonal (p + i + k)) (line_straight a.diagonal p i k at_q.one.reaches)) (low_straight b.part b.ways.up rows.first i k (line_at b.diagonal p) (line_at b.diagonal (p + i)) (line_at b.diagonal (p + i + k)) (line_straight b.diagonal p i k at_q.other.reaches)) one other

below_from : (a b : Band) (rows : Run) (p i k t q : ℕ) → t ≡ p + i → q ≡ p + i + k → AreWithin a b rows q → IsBelow a b rows p → IsBelow a b rows q → IsBelow a b rows t
below_from a b rows p zero k t q is_t is_q at_q one other =
    let same : p ≡ t = omega (arith, is_t) in
    subst (λ (n : ℕ). IsBelow a b rows n) same one
below_from a b rows p (suc i) k t q is_t is_q at_q one other =
    subst (λ (n : ℕ). IsBelow a b rows n) (sym is_t) (below_on a b rows p (suc i) k (omega arith) (subst (λ (n : ℕ). AreWithin a b rows n) is_q at_q) one (subst (λ (n : ℕ). IsBelow a b rows n) is_q other))

below_between : (a b : Band) (rows : Run) (p t q : ℕ) → p ≤ t → t ≤ q → AreWithin a b rows q → IsBelow a b rows p → IsBelow a b rows q → IsBelow a b rows t
below_between a b rows p t q low high at_q one other =
    below_from a b rows p (t - p) (q - t) t q (omega arith) (omega arith) at_q one other

below_none : (a b : Band) (rows : Run) (p t q : ℕ) → p ≤ t → t ≤ q → AreWithin a b rows t → AreWithin a b rows q → StaysBelow a b rows p q → ¬ KeepBoth a b rows t
below_none a b rows p t q low high at_t at_q below both =
    let here = below_between a b rows p t q low high at_q below.0 below.1 in
    let end = ((at_t.one.kept both.0 both.1).0 both.2).1 in
    let start = ((at_t.other.kept both.0 both.1).0 both.3).0 in
    omega (arith, here, end, start)

-- bands that are apart at two turns keep no common row between
pub apart_between : (a b : Band) (rows : Run) (p t q : ℕ) → p ≤ t → t ≤ q → AreWithin a b rows t → AreWithin a b rows q → AreApartAt a b rows p q → ¬ KeepBoth a b rows t
apart_between a b rows p t q low high at_t at_q apart both = ⊎_elim
    (λ two. ⊎_elim
    (λ below. below_none a b rows p t q low high at_t at_q below both)
    (λ below. below_none b a rows p t q low high (turned at_t) (turned at_q) below (both.0, both.1, both.3, both.2))
    two)
    (λ one. ⊎_elim
    (λ below. below_none a a rows p t q low high (record { one = at_t.one; other = at_t.one }) (record { one = at_q.one; other = at_q.one }) below (both.0, both.1, both.2, both.2))
    (λ below. below_none b b rows p t q low high (record { one = at_t.other; other = at_t.other }) (record { one = at_q.other; other = at_q.other }) below (both.0, both.1, both.3, both.3))
    one)
    apart

-- what holds at a turn holds between the ends, where it doesn't at these nor in the first half
pub in_second_half : (P : ℕ → Type 0) (first middle last t : ℕ) → ¬ P first → ¬ P last → ((u : ℕ) → first + 1 ≤ u → u < middle → ¬ P u) → first ≤ t → t ≤ last → P t → (u : ℕ) × (middle ≤ u) × (u < last) × P u
in_second_half P first middle last t not_first not_last not_half low high here = ⊎_elim
    (λ same. absurd (not_first (subst P (sym same) here)))
    (λ after. ⊎_elim
    (λ same. absurd (not_last (subst P same here)))
    (λ before. ⊎_elim
    (λ half. absurd (not_half t (omega (arith, after)) half here))
    (λ rest. (t, rest, before, here))
    (cases_lt t middle))
    (eq-or-lt_of_le {n = t} {m = last} high))
    (eq-or-lt_of_le {n = first} {m = t} low)
