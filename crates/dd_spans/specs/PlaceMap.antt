-- What is seen of a `RunMap`.
use Rattle.std.specs.Prelude.{ℕ, ◌+◌, List, ◌++◌, take, drop, replicate}

-- The value of each place, from 0 on; and how many runs more the map has memory for.
pub record PlaceMap : Type 0 where
  pub list : List ℕ
  pub spare : ℕ

-- the list with a value in `count` places from `first` on
abbrev pub with_run : ℕ → ℕ → ℕ → List ℕ → List ℕ
with_run first count value ns = take first ns ++ replicate count value ++ drop (first + count) ns

-- the list with the values of another in `count` places from `first` on
abbrev pub with_copied : ℕ → ℕ → List ℕ → List ℕ → List ℕ
with_copied first count other ns = take first ns ++ take count (drop first other) ++ drop (first + count) ns
