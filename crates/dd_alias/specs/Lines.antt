-- The rows that a pattern keeps, by the row on the diagonal of each common column.
use Rattle.std.specs.Prelude.{◌≡◌, ◌≢◌, ◌⊎◌, ◌↔◌, ℕ, pos, ◌<ℤ◌, ◌+◌, ◌*◌, ◌-◌, ◌^◌, ◌<◌, ◌≤◌, true, false, if◌then◌else◌}
use Rattle.dd_views.specs.declared.part.Part.{Part}
use Rattle.dd_views.specs.declared.part.Part.TheVariants.{All}
use Rattle.dd_views.specs.declared.span3.Span3.{Span3}
use Rattle.dd_views.specs.IndexList.{keeps}
use Rattle.dd_alias.specs.declared.band.Band.{Band}
use Rattle.dd_alias.specs.declared.interval.Ways.{Ways}
use Rattle.dd_alias.specs.declared.line.Line.{Line}
use Rattle.dd_alias.specs.declared.pattern.Pattern.{Pattern}
use Rattle.dd_alias.specs.declared.run.Run.{Run}
use Rattle.dd_alias.specs.Congruence.{IsMultiple, IsSame}
use Rattle.dd_alias.specs.Columns.{beyond_of, high_of, low_of}
use Rattle.dd_alias.specs.Places.{IsAt}
use Rattle.dd_alias.specs.Runs.{HasNumber}

-- both spans rise, or both fall
abbrev pub AreAlike : Span3 → Span3 → Type 0
AreAlike a b = ((pos 0 <ℤ a.step) × (pos 0 <ℤ b.step)) ⊎ ((a.step <ℤ pos 0) × (b.step <ℤ pos 0))

abbrev pub AreUnlike : Span3 → Span3 → Type 0
AreUnlike a b = ((pos 0 <ℤ a.step) × (b.step <ℤ pos 0)) ⊎ ((a.step <ℤ pos 0) × (pos 0 <ℤ b.step))

abbrev pub line_at : Line → ℕ → ℕ
line_at l t = if l.rises then l.first + t * l.stride else l.first - t * l.stride

-- the line doesn't leave the numbers of 63 bits before the turn
pub record Reaches (l : Line) (t : ℕ) : Type 0 where
  pub up : l.rises ≡ true → l.first + t * l.stride < 2 ^ 63
  pub down : l.rises ≡ false → t * l.stride ≤ l.first

-- the number of a run at a turn, from 0
abbrev pub run_at : Run → ℕ → ℕ
run_at r t = r.first + t * r.stride

abbrev pub IsTurn : Run → ℕ → Type 0
IsTurn r t = run_at r t ≤ r.limit

-- at each turn the line is at the row whose place is that of the column
pub record IsDiagonal (p : Pattern) (cols : Run) (l : Line) : Type 0 where
  pub reaches : (t : ℕ) → IsTurn cols t → Reaches l t
  pub at : (t j : ℕ) → p.part ≢ All → IsTurn cols t → IsAt p.cols (run_at cols t) j → IsAt p.rows (line_at l t) j

-- what the part keeps by places, the other keeps by the numbers of rows
abbrev pub IsFacing : Pattern → Part → Type 0
IsFacing p part = (x y i j : ℕ) → IsAt p.rows x i → IsAt p.rows y j → (keeps p.part i j ≡ true) ↔ (keeps part x y ≡ true)

pub record IsBand (p : Pattern) (cols : Run) (b : Band) : Type 0 where
  pub whole : (p.part ≡ All) ↔ (b.part ≡ All)
  pub facing : IsFacing p b.part
  pub diagonal : IsDiagonal p cols b.diagonal

-- strides and steps are multiples of a gap, so that the next numbers some gaps from a row are as far from the line at each turn
pub record IsGap (part : Part) (l : Line) (rows : Run) (w : Ways) (gap over under : ℕ) : Type 0 where
  pub above : 0 < gap
  pub small : gap < 2 ^ 63
  pub line : IsMultiple gap l.stride
  pub steps : IsMultiple gap rows.stride
  pub near_over : over < gap
  pub near_under : under < gap
  pub leads : IsSame gap (l.first + over) rows.first
  pub around : IsMultiple gap (over + under)
  pub up : w.up ≡ beyond_of part over gap
  pub down : w.down ≡ beyond_of part under gap

abbrev pub AreWays : Part → Line → Run → Ways → Type 0
AreWays part l rows w = (gap : ℕ) × (over : ℕ) × (under : ℕ) × IsGap part l rows w gap over under

-- between which numbers of a run the rows stand that the band keeps at the turn
abbrev pub low_at : Band → Run → ℕ → ℕ
low_at b rows t = low_of b.part (line_at b.diagonal t) b.ways.up rows.first

abbrev pub high_at : Band → Run → ℕ → ℕ
high_at b rows t = high_of b.part (line_at b.diagonal t) b.ways.down rows.limit

-- the band keeps the row at the turn
abbrev pub KeepsAt : Band → ℕ → ℕ → Type 0
KeepsAt b t row = keeps b.part row (line_at b.diagonal t) ≡ true

-- the diagonal is at a row, and the bounds are those of what the band keeps of the run
pub record IsWithin (b : Band) (rows : Run) (t : ℕ) : Type 0 where
  pub reaches : Reaches b.diagonal t
  pub small : b.part ≢ All → line_at b.diagonal t < 2 ^ 63
  pub up : b.ways.up ≤ 2 ^ 63
  pub kept : (r : ℕ) → HasNumber rows r → KeepsAt b t r ↔ ((low_at b rows t ≤ r) × (r ≤ high_at b rows t))

-- what one band keeps of a run at the turn is below what the other keeps
abbrev pub IsBelow : Band → Band → Run → ℕ → Type 0
IsBelow a b rows t = high_at a rows t < low_at b rows t

abbrev pub StaysBelow : Band → Band → Run → ℕ → ℕ → Type 0
StaysBelow a b rows p q = IsBelow a b rows p × IsBelow a b rows q

-- at both turns one band is below the other, or one keeps nothing
abbrev pub AreApartAt : Band → Band → Run → ℕ → ℕ → Type 0
AreApartAt a b rows p q = (StaysBelow a b rows p q ⊎ StaysBelow b a rows p q) ⊎ (StaysBelow a a rows p q ⊎ StaysBelow b b rows p q)

-- both bands keep a row of the run at the turn
abbrev pub KeepBoth : Band → Band → Run → ℕ → Type 0
KeepBoth a b rows t = (r : ℕ) × HasNumber rows r × KeepsAt a t r × KeepsAt b t r

-- both bands keep a row of the run at a turn from p on, before q
abbrev pub MeetBetween : Band → Band → Run → ℕ → ℕ → Type 0
MeetBetween a b rows p q = (t : ℕ) × (p ≤ t) × (t < q) × KeepBoth a b rows t
