-- The rows passed so far have no entries.
use Rattle.std.proofs.Common.{◌≡◌, ◌+◌, ◌-◌}
use Rattle.dd_machine.specs.Owed.{entries_from, next_entry, next_row}
use Rattle.dd_machine.specs.Words.{rows}
use Rattle.dd_owed.proofs.entries.row_below.Given as goal

abbrev pub invariant-loop-above : goal.invariant-loop-above
invariant-loop-above l =
    (next_row l.plan (l.above + 1) (rows l.plan - l.above) ≡ next_row l.plan (l.row + 1) (rows l.plan - l.row))
    × (next_entry (entries_from l.plan (l.above + 1) (rows l.plan - l.above)) ≡ next_entry (entries_from l.plan (l.row + 1) (rows l.plan - l.row)))
