-- Runs: numbers that follow each other.
use Rattle.std.specs.Prelude.{ℕ, ◌+◌, ◌^◌, ◌<◌, ◌≤◌, List, Contains}

-- The first run of a list from a number on: it begins with the least number of the list that is at least `from`, and ends
-- before the first that the list doesn't have.
pub record IsNextRun (ns : List ℕ) (from first count : ℕ) : Type 0 where
  pub reached : from ≤ first
  pub skipped : (n : ℕ) → from ≤ n → n < first → ¬ Contains ns n
  pub some : 0 < count
  pub run : (n : ℕ) → first ≤ n → n < first + count → Contains ns n
  pub ends : ¬ Contains ns (first + count)
  pub fits : first + count < 2 ^ 64
