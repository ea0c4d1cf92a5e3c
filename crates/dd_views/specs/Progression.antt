-- The numbers that a range lists.
use Rattle.std.specs.Prelude.{◌≡◌, ℕ, ◌<◌, ℤ, pos, ◌+ℤ◌, ◌*ℤ◌, ◌<ℤ◌, ◌≤ℤ◌, ◌⊎◌}
use Rattle.dd_views.specs.declared.range.Range.{Range}
use Rattle.dd_views.specs.declared.range.Range.TheVariants.{All, One, Run, Steps}
use Rattle.dd_views.specs.declared.bounds.Bounds.{Bounds}

-- the first number of a range, its step, and the number that it never passes
abbrev pub bounds_of : Range → ℕ → Bounds
bounds_of All length = record { first = pos 1; step = pos 1; last = pos length }
bounds_of (One number) length = record { first = number; step = pos 1; last = number }
bounds_of (Run first last) length = record { first = first; step = pos 1; last = last }
bounds_of (Steps first step last) length = record { first = first; step = step; last = last }

-- the number is beyond the last one, in the direction of the step
abbrev pub HasPassed : Bounds → ℤ → Type 0
HasPassed b x = ((pos 0 <ℤ b.step) × (b.last <ℤ x)) ⊎ ((b.step <ℤ pos 0) × (x <ℤ b.last))

-- first, first + step, first + 2 * step and so on
abbrev pub number_at : Bounds → ℕ → ℤ
number_at b i = b.first +ℤ pos i *ℤ b.step

-- the range lists n numbers: the n first have not passed the last one, and the next has. For a step of 0 there is no such n
pub record ListsCount (b : Bounds) (n : ℕ) : Type 0 where
  pub listed : (i : ℕ) → i < n → ¬ HasPassed b (number_at b i)
  pub ended : HasPassed b (number_at b n)

-- the range lists the number
abbrev pub Lists : Bounds → ℤ → Type 0
Lists b x = (i : ℕ) × (number_at b i ≡ x) × ¬ HasPassed b x

abbrev pub IsWithin : ℕ → ℤ → Type 0
IsWithin length x = (pos 1 ≤ℤ x) × (x ≤ℤ pos length)

-- the step is 0, or the range lists a number outside 1 to length
abbrev pub IsBadRange : Bounds → ℕ → Type 0
IsBadRange b length = (b.step ≡ pos 0) ⊎ ((x : ℤ) × Lists b x × ¬ IsWithin length x)
