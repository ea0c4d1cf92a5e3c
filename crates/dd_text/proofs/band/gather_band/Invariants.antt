use Rattle.std.proofs.Common.{◌≡◌, ◌-◌, ◌++◌}
use Rattle.std.specs.List.{flat_map, range_with_len}
use Rattle.dd_text.specs.Bands.{band_of, column_part}
use Rattle.dd_text.proofs.band.gather_band.Given as goal

abbrev pub invariant-loop-j : goal.invariant-loop-j
invariant-loop-j l =
    l.band.items ++ flat_map (column_part l.grid l.values l.first l.height) (range_with_len l.j (l.grid.cols - l.j)) ≡ band_of l.grid l.values l.first l.height
