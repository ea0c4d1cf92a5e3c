-- The numbers of a run.
use Rattle.std.specs.Prelude.{ℕ, ◌≤◌}
use Rattle.dd_alias.specs.declared.run.Run.{Run}
use Rattle.dd_alias.specs.Congruence.{IsOnWay}

-- first, first + stride and so on
abbrev pub IsAhead : Run → ℕ → Type 0
IsAhead r x = IsOnWay r.first r.stride x

-- none of them above the limit
abbrev pub HasNumber : Run → ℕ → Type 0
HasNumber r x = IsAhead r x × (x ≤ r.limit)

-- the least number that both runs come to
pub record IsFirstCommon (a b : Run) (x : ℕ) : Type 0 where
  pub of_a : IsAhead a x
  pub of_b : IsAhead b x
  pub least : (y : ℕ) → IsAhead a y → IsAhead b y → x ≤ y
