-- What is kept of a range.
use Rattle.std.specs.Prelude.{◌≡◌, ◌≢◌, ℕ, zero, suc, ◌<◌, ◌≤◌, ◌^◌, ℤ, pos, ◌+ℤ◌, ◌*ℤ◌}
use Rattle.dd_views.specs.declared.bounds.Bounds.{Bounds}
use Rattle.dd_views.specs.declared.span3.Span3.{Span3}
use Rattle.dd_views.specs.Progression.{ListsCount, IsWithin}

-- the number at a place, from 0
abbrev pub number : Span3 → ℕ → ℤ
number s i = pos s.first +ℤ pos i *ℤ s.step

-- how n numbers are kept: none as 1 by 1, one with step 1, more as they are
abbrev pub IsKeptAs : Bounds → ℕ → Span3 → Type 0
IsKeptAs b zero s = (s.first ≡ 1) × (s.step ≡ pos 1)
IsKeptAs b (suc zero) s = (pos s.first ≡ b.first) × (s.step ≡ pos 1)
IsKeptAs b (suc (suc n)) s = (pos s.first ≡ b.first) × (s.step ≡ b.step)

-- what is kept of a range
pub record IsSpanOf (b : Bounds) (s : Span3) : Type 0 where
  pub counted : ListsCount b s.count
  pub kept : IsKeptAs b s.count s

-- numbers of 1 to length, no two of them equal
pub record IsSpanIn (length : ℕ) (s : Span3) : Type 0 where
  pub steps : s.step ≢ pos 0
  pub within : (i : ℕ) → i < s.count → IsWithin length (number s i)
  pub few : s.count ≤ length

-- the numbers of a view's rows or columns, which fit 63 bits
abbrev pub IsSmallSpan : Span3 → Type 0
IsSmallSpan s = (length : ℕ) × (length < 2 ^ 63) × IsSpanIn length s
