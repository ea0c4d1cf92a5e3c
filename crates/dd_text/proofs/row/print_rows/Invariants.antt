use Rattle.std.proofs.Common.{◌≡◌, ◌-◌, ◌++◌}
use Rattle.std.specs.List.{flat_map, range_with_len}
use Rattle.dd_causes.specs.Appended.{AppendsAllBut}
use Rattle.dd_meaning.specs.Text.{printed_row, printed}
use Rattle.dd_text.proofs.row.print_rows.Given as goal

abbrev pub invariant-loop-i : goal.invariant-loop-i
invariant-loop-i g l =
    AppendsAllBut (g.O.Sink.taken l.initial.out) (g.O.Sink.taken l.out) (l.rows.items ++ flat_map (printed_row l.grid l.values) (range_with_len l.i (l.grid.rows - l.i))) (l.initial.rows.items ++ printed l.grid l.values)
    × (g.O.Sink.faults l.out ≡ g.O.Sink.faults l.initial.out)
