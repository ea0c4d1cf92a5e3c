-- The places of numbers in a span, and of elements in a part.
use Rattle.std.specs.Prelude.{◌≡◌, ℕ, ◌≤◌}
use Rattle.dd_views.specs.declared.span3.Span3.{Span3}
use Rattle.dd_views.specs.IndexList.{number_at_place}
use Rattle.dd_alias.specs.declared.interval.Interval.{Interval}

-- the span has the number x at the place i
pub record IsAt (s : Span3) (x i : ℕ) : Type 0 where
  pub low : 1 ≤ i
  pub high : i ≤ s.count
  pub number : number_at_place s i ≡ x

-- the span has the number
abbrev pub IsIn : Span3 → ℕ → Type 0
IsIn s x = (i : ℕ) × IsAt s x i

abbrev pub IsBetween : Interval → ℕ → Type 0
IsBetween b x = (b.low ≤ x) × (x ≤ b.high)
