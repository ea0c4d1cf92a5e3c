-- The elements of a view by the numbers of their row and column.
use Rattle.std.specs.Prelude.{◌≡◌, ◌≢◌, ◌↔◌, ℕ, true, unsigned_abs}
use Rattle.dd_views.specs.declared.part.Part.TheVariants.{All}
use Rattle.dd_views.specs.declared.span3.Span3.{Span3}
use Rattle.dd_views.specs.declared.view.View.{View}
use Rattle.dd_views.specs.IndexList.{keeps}
use Rattle.dd_views.specs.Span.{IsSmallSpan}
use Rattle.dd_alias.specs.declared.pattern.Pattern.{Pattern}
use Rattle.dd_alias.specs.declared.run.Run.{Run}
use Rattle.dd_alias.specs.Places.{IsAt, IsIn}
use Rattle.dd_alias.specs.Runs.{HasNumber}

-- what holds of the rows, the columns and the part of each view
pub record IsPattern (p : Pattern) : Type 0 where
  pub rows : IsSmallSpan p.rows
  pub cols : IsSmallSpan p.cols
  pub square : p.part ≢ All → p.rows.count ≡ p.cols.count

abbrev pub pattern_of : View → Pattern
pattern_of v = record { rows = v.rows; cols = v.cols; part = v.part }

-- the element of the row number r and the column number c is at the places i and j, and is kept
pub record IsKeptAt (p : Pattern) (r c i j : ℕ) : Type 0 where
  pub row : IsAt p.rows r i
  pub col : IsAt p.cols c j
  pub kept : keeps p.part i j ≡ true

-- the pattern has the element of the row number r and the column number c
abbrev pub HasElement : Pattern → ℕ → ℕ → Type 0
HasElement p r c = (i : ℕ) × (j : ℕ) × IsKeptAt p r c i j

-- the run has the numbers that both spans have, and no other
abbrev pub AreCommon : Span3 → Span3 → Run → Type 0
AreCommon a b run = (x : ℕ) → HasNumber run x ↔ (IsIn a x × IsIn b x)

-- the view is whole, in steps of 1 or -1
abbrev pub IsSolid : View → Type 0
IsSolid v = (v.part ≡ All) × (unsigned_abs v.rows.step ≡ 1) × (unsigned_abs v.cols.step ≡ 1)

-- both patterns have an element in the column
abbrev pub MeetsIn : Pattern → Pattern → ℕ → Type 0
MeetsIn a b c = (r : ℕ) × HasElement a r c × HasElement b r c

-- both patterns have an element
abbrev pub Meets : Pattern → Pattern → Type 0
Meets a b = (c : ℕ) × MeetsIn a b c
