-- The places of a span's numbers by the strips of an edge, each the rows of one row of blocks or the columns of one column,
-- and the places that a part keeps.
use Rattle.std.specs.Prelude.{◌≡◌, ◌≢◌, ◌↔◌, ℕ, ◌+◌, ◌-◌, ◌/◌, ◌^◌, ◌<◌, ◌≤◌, true}
use Rattle.std.specs.Int.{div_ceil}
use Rattle.dd_views.specs.declared.part.Part.{Part}
use Rattle.dd_views.specs.declared.span3.Span3.{Span3}
use Rattle.dd_views.specs.IndexList.{keeps, number_at_place}
use Rattle.dd_views.specs.Span.{IsSpanIn}

-- numbers of 1 to a length of 32 bits
abbrev pub IsShortSpan : Span3 → Type 0
IsShortSpan s = (length : ℕ) × (length < 2 ^ 32) × IsSpanIn length s

-- the strip, from 0, in which the number at a place lies
abbrev pub strip_at : Span3 → ℕ → ℕ → ℕ
strip_at s size i = (number_at_place s i - 1) / size

-- the numbers at the places from low on and below end lie in one strip, and the next one does not
pub record IsSlice (s : Span3) (size low strip end : ℕ) : Type 0 where
  pub some : low < end
  pub last : end ≤ s.count + 1
  pub each : (i : ℕ) → low ≤ i → i < end → strip_at s size i ≡ strip
  pub next : end ≤ s.count → strip_at s size end ≢ strip
  pub fits : (length : ℕ) → IsSpanIn length s → strip < div_ceil length size

-- the part keeps the row at the place i in one of the columns at the places from first on and below last
abbrev pub KeepsIn : Part → ℕ → ℕ → ℕ → Type 0
KeepsIn part first last i = (k : ℕ) × (first ≤ k) × (k < last) × (keeps part i k ≡ true)

-- the places from low on and below high are those of the rows that it keeps there
pub record AreKept (part : Part) (first last rows low high : ℕ) : Type 0 where
  pub some : 1 ≤ low
  pub order : low ≤ high
  pub end : high ≤ rows + 1
  pub exact : (i : ℕ) → 1 ≤ i → i ≤ rows → ((low ≤ i) × (i < high)) ↔ KeepsIn part first last i
