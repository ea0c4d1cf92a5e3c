-- Numbers in steps, and the least of them that is a multiple of another number.
use Rattle.std.specs.Prelude.{◌≡◌, ℕ, ◌+◌, ◌*◌, ◌^◌, ◌≤◌, ◌<◌}

-- x is start, or some times the step beyond it
abbrev pub IsOnWay : ℕ → ℕ → ℕ → Type 0
IsOnWay start step x = (n : ℕ) × (x ≡ start + n * step)

abbrev pub IsMultiple : ℕ → ℕ → Type 0
IsMultiple step x = (n : ℕ) × (x ≡ n * step)

-- so many strides lead on the way of the other, and no fewer do
pub record IsLeast (stride start step turns : ℕ) : Type 0 where
  pub there : IsOnWay start step (turns * stride)
  pub fits : turns * stride < 2 ^ 64
  pub least : (k : ℕ) → IsOnWay start step (k * stride) → turns ≤ k

-- no strides within 64 bits lead on the way of the other
abbrev pub IsFar : ℕ → ℕ → ℕ → Type 0
IsFar stride start step = (k : ℕ) → IsOnWay start step (k * stride) → 2 ^ 64 ≤ k * stride

-- what every common multiple of two numbers is a multiple of
pub record IsLeastCommon (a b common : ℕ) : Type 0 where
  pub above : 0 < common
  pub of_a : IsMultiple a common
  pub of_b : IsMultiple b common
  pub least : (x : ℕ) → IsMultiple a x → IsMultiple b x → IsMultiple common x

-- the common multiples of two numbers within 64 bits are 0 alone
abbrev pub HasNoCommon : ℕ → ℕ → Type 0
HasNoCommon a b = (x : ℕ) → IsMultiple a x → IsMultiple b x → x < 2 ^ 64 → x ≡ 0

-- both numbers are some times the gap apart
abbrev pub IsSame : ℕ → ℕ → ℕ → Type 0
IsSame gap x y = (m : ℕ) × (n : ℕ) × (x + m * gap ≡ y + n * gap)
