-- Where the element at a place of a part's order stands, and where a number stands in its span.
use Rattle.std.specs.Prelude.{◌≡◌, ◌⊎◌, pos, ◌<ℤ◌, ℕ, ◌+◌, ◌*◌, ◌-◌, ◌≤◌, ◌<◌}
use Rattle.dd_views.specs.declared.part.Part.{Part}
use Rattle.dd_views.specs.declared.part.Part.TheVariants.{All, Lower, Upper, UnitLower, UnitUpper, Diag}
use Rattle.dd_views.specs.declared.place.Place.{Place}
use Rattle.dd_views.specs.declared.span3.Span3.{Span3}
use Rattle.dd_views.specs.Triangle.{triangle}

-- the element at the place i stands at row and column, from 1, in a view of m rows
abbrev pub StandsAt : Part → ℕ → ℕ → Place → Type 0
StandsAt All m i p = ((p.col - 1) * m + p.row ≡ i + 1) × (1 ≤ p.row) × (p.row ≤ m) × (1 ≤ p.col)
StandsAt Lower m i p = (triangle m + p.row ≡ i + p.col + triangle (m + 1 - p.col)) × (p.col ≤ p.row) × (p.row ≤ m) × (1 ≤ p.col)
StandsAt Upper m i p = (triangle (p.col - 1) + p.row ≡ i + 1) × (1 ≤ p.row) × (p.row ≤ p.col)
StandsAt UnitLower m i p = (triangle (m - 1) + p.row ≡ i + (p.col + 1) + triangle (m - p.col)) × (p.col < p.row) × (p.row ≤ m) × (1 ≤ p.col)
StandsAt UnitUpper m i p = (triangle (p.col - 2) + p.row ≡ i + 1) × (1 ≤ p.row) × (p.row < p.col)
StandsAt Diag m i p = (p.row ≡ i + 1) × (p.col ≡ i + 1)

-- the number `index + 1` is `way` beyond the first, in the direction of the step
abbrev pub IsWay : Span3 → ℕ → ℕ → Type 0
IsWay s index way = ((pos 0 <ℤ s.step) × (s.first + way ≡ index + 1)) ⊎ ((s.step <ℤ pos 0) × (index + 1 + way ≡ s.first))
