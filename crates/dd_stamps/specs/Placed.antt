-- Values that were put at places of a list.
use Rattle.std.specs.Prelude.{◌≡◌, ◌≢◌, ℕ, ◌+◌, ◌<◌, ◌≤◌, List, length, slice_index_or}

-- the place of each number from `from` on and below `end` has what was given for it, and all others what was there
pub record HasPlaced {A : Type 0} (none : A) (from end : ℕ) (place : ℕ → ℕ) (given : ℕ → A) (old new : List A) : Type 0 where
  pub count : length new ≡ length old
  pub placed : (i : ℕ) → from ≤ i → i < end → slice_index_or new (place i) none ≡ given i
  pub others : (q : ℕ) → ((i : ℕ) → from ≤ i → i < end → place i ≢ q) → slice_index_or new q none ≡ slice_index_or old q none

-- so many places from `at` on have what another list has from `first` on, and all others what was there
pub record HasCopied {A : Type 0} (none : A) (first at many : ℕ) (other old new : List A) : Type 0 where
  pub count : length new ≡ length old
  pub copied : (i : ℕ) → i < many → slice_index_or new (at + i) none ≡ slice_index_or other (first + i) none
  pub before : (q : ℕ) → q < at → slice_index_or new q none ≡ slice_index_or old q none
  pub behind : (q : ℕ) → at + many ≤ q → slice_index_or new q none ≡ slice_index_or old q none
