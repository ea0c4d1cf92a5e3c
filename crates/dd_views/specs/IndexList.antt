-- The positions that a view stands for, in its order.
use Rattle.std.specs.Prelude.{ℕ, ◌+◌, ◌*◌, ◌-◌, Bool, true, nat_eq, nat_lt, nat_le, List, drop, map, take}
use Rattle.std.specs.Int.RustNames.{unsigned_abs}
use Rattle.std.specs.List.{filter, flat_map, range_with_len}
use Rattle.dd_views.specs.declared.part.Part.{Part}
use Rattle.dd_views.specs.declared.part.Part.TheVariants.{All, Lower, Upper, UnitLower, UnitUpper, Diag}
use Rattle.dd_views.specs.declared.span3.Span3.{Span3}
use Rattle.dd_views.specs.declared.view.View.{View}
use Rattle.dd_views.specs.Span.{number}

-- the places of n numbers: 1 to n
abbrev pub places : ℕ → List ℕ
places n = range_with_len 1 n

-- the part keeps the element whose row has the place i and whose column has the place j
abbrev pub keeps : Part → ℕ → ℕ → Bool
keeps All i j = true
keeps Lower i j = nat_le j i
keeps Upper i j = nat_le i j
keeps UnitLower i j = nat_lt j i
keeps UnitUpper i j = nat_lt i j
keeps Diag i j = nat_eq i j

-- the number at a place, which is above 0 in every view
abbrev pub number_at_place : Span3 → ℕ → ℕ
number_at_place s i = unsigned_abs (number s (i - 1))

-- the position in the array of the element whose row has the place i and whose column has the place j:
-- (c - 1) * height + (r - 1) for column c and row r
abbrev pub position : View → ℕ → ℕ → ℕ
position v i j = (number_at_place v.cols j - 1) * v.height + (number_at_place v.rows i - 1)

-- the places of the rows that the part keeps in the column with the place j
abbrev pub kept_rows : View → ℕ → List ℕ
kept_rows v j = filter (λ i. keeps v.part i j) (places v.rows.count)

-- the positions in the column with the place j, row after row
abbrev pub column_list : View → ℕ → List ℕ
column_list v j = map (λ i. position v i j) (kept_rows v j)

-- column after column
abbrev pub index_list : View → List ℕ
index_list v = flat_map (column_list v) (places v.cols.count)

-- the positions in the first j columns, and in those behind them
abbrev pub columns_before : View → ℕ → List ℕ
columns_before v j = flat_map (column_list v) (take j (places v.cols.count))

abbrev pub columns_from : View → ℕ → List ℕ
columns_from v j = flat_map (column_list v) (drop j (places v.cols.count))
