-- Numbers from one to another.
use Rattle.std.specs.Prelude.{◌≡◌, ◌≤◌, min, max}
use Rattle.dd_views.specs.declared.span3.Span3.{Span3}
use Rattle.dd_views.specs.IndexList.{number_at_place}
use Rattle.dd_alias.specs.declared.interval.Interval.{Interval}

-- neither begins behind the end of the other, so that some number is in both where both have one
abbrev pub Meet : Interval → Interval → Type 0
Meet a b = (a.low ≤ b.high) × (b.low ≤ a.high)

-- one is as wide as the other on either side
abbrev pub IsAround : Interval → Interval → Type 0
IsAround a b = (a.low ≤ b.low) × (b.high ≤ a.high)

-- from the least number of a span to the greatest
abbrev pub IsBound : Span3 → Interval → Type 0
IsBound s b = (b.low ≡ min (number_at_place s 1) (number_at_place s s.count)) × (b.high ≡ max (number_at_place s 1) (number_at_place s s.count))
