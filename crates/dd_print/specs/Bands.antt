-- The rows of an array that a row of its blocks has.
use Rattle.std.specs.Prelude.{ℕ, ◌+◌, ◌*◌, ◌-◌, min, ℤ, List, drop, take}
use Rattle.std.specs.List.{flat_map, range_with_len}
use Rattle.dd_blocks.specs.declared.grid.Grid.{Grid}

-- how many rows there are in row i of the blocks, from 0
abbrev pub band_height : Grid → ℕ → ℕ
band_height g i = min g.brows (g.rows - i * g.brows)

-- these rows as an array of their own
abbrev pub band_grid : Grid → ℕ → Grid
band_grid g i = record { rows = band_height g i; cols = g.cols; brows = g.brows; bcols = g.bcols }

-- their values, column by column
abbrev pub band_values : Grid → ℕ → List ℤ → List ℤ
band_values g i values = flat_map (λ j. take (band_height g i) (drop (j * g.rows + i * g.brows) values)) (range_with_len 0 g.cols)
