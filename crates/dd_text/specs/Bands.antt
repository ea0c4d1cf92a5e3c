-- Bands of rows of an array.
use Rattle.std.specs.Prelude.{ℕ, ◌+◌, ◌*◌, ℤ, List, drop, take}
use Rattle.std.specs.List.{flat_map, range_with_len}
use Rattle.dd_blocks.specs.declared.grid.Grid.{Grid}

-- so many numbers of column j, from 0, from row `first` on
abbrev pub column_part : Grid → List ℤ → ℕ → ℕ → ℕ → List ℤ
column_part grid values first height j = take height (drop (j * grid.rows + first) values)

-- so many rows from row `first` on, column by column
abbrev pub band_of : Grid → List ℤ → ℕ → ℕ → List ℤ
band_of grid values first height = flat_map (column_part grid values first height) (range_with_len 0 grid.cols)
