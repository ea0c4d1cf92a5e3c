-- The positions of a column of a view.
use Rattle.std.specs.Prelude.{ℕ, ℤ, pos, ◌+ℤ◌, ◌*ℤ◌, List, map}
use Rattle.std.specs.Int.RustNames.{unsigned_abs}
use Rattle.std.specs.List.{range_with_len}
use Rattle.dd_views.specs.declared.column.Column.{Column}

-- so many steps from the first position, from 0
abbrev pub stepped : Column → ℕ → ℤ
stepped c i = pos c.first +ℤ pos i *ℤ c.step

-- the position at a place, from 0, which is never below 0 in a column of a view
abbrev pub position_in : Column → ℕ → ℕ
position_in c i = unsigned_abs (stepped c i)

-- one after the other
abbrev pub positions_in : Column → List ℕ
positions_in c = map (position_in c) (range_with_len 0 c.count)
