-- What callers see of the slots and stores of this crate.
use Rattle.std.specs.Prelude.{ℕ, List}

-- a slot in memory: its bytes, and how many of its calls failed
pub record Bytes : Type 0 where
  pub bytes : List ℕ
  pub faults : ℕ

-- a store: how many slots it made, and how many faults it has counted
pub record Counts : Type 0 where
  pub made : ℕ
  pub faults : ℕ

-- a store in memory whose calls fail as it is told: the numbers of the makes that fail, from 1, how many calls of `make` there
-- were, how many of them made a slot, and how many faults it has counted. No count goes past the last number of 64 bits
pub record Failing : Type 0 where
  pub makes : List ℕ
  pub calls : ℕ
  pub made : ℕ
  pub faults : ℕ
