-- How far a range goes from its first number, and how far it may go.
use Rattle.std.specs.Prelude.{◌≡◌, ◌≢◌, ℕ, ◌+◌, pos, ◌-ℤ◌, ◌<ℤ◌}
use Rattle.dd_views.specs.declared.bounds.Bounds.{Bounds}
use Rattle.dd_views.specs.declared.span3.Span3.{Span3}
use Rattle.dd_views.specs.Progression.{HasPassed, IsWithin}

-- a range that isn't empty, with its first number within 1 to length
pub record IsOpen (b : Bounds) (length : ℕ) : Type 0 where
  pub nonzero : b.step ≢ pos 0
  pub begins : ¬ HasPassed b b.first
  pub within : IsWithin length b.first

-- how far from the first number 1 and length are, in the direction of the step
pub record IsRoom (b : Bounds) (length room : ℕ) : Type 0 where
  pub up : pos 0 <ℤ b.step → pos room ≡ pos length -ℤ b.first
  pub down : b.step <ℤ pos 0 → pos room ≡ b.first -ℤ pos 1

-- a span of the first number of a range and so many jumps from it
pub record IsKept (b : Bounds) (jumps : ℕ) (s : Span3) : Type 0 where
  pub first : pos s.first ≡ b.first
  pub one : jumps ≡ 0 → s.step ≡ pos 1
  pub more : jumps ≢ 0 → s.step ≡ b.step
  pub count : s.count ≡ jumps + 1
