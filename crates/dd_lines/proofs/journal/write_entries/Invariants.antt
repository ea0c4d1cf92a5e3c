use Rattle.std.proofs.Common.{◌≡◌, drop}
use Rattle.dd_causes.specs.Appended.{AppendsAllBut}
use Rattle.dd_machine.specs.Journal.{journal_lines}
use Rattle.dd_lines.proofs.journal.write_entries.Given as goal

abbrev pub invariant-loop-entry : goal.invariant-loop-entry
invariant-loop-entry g l =
    AppendsAllBut (g.O.Sink.taken l.initial.out) (g.O.Sink.taken l.out) (journal_lines (drop l.entry-index l.entries)) (journal_lines l.entries)
    × (g.O.Sink.faults l.out ≡ g.O.Sink.faults l.initial.out)
