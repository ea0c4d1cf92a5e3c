use Rattle.std.proofs.Common.{◌≡◌, drop}
use Rattle.dd_causes.specs.Appended.{AppendsAllBut}
use Rattle.std.specs.List.{flat_map}
use Rattle.dd_lines.specs.Lines.{number_after}
use Rattle.dd_lines.proofs.journal.write_numbers.Given as goal

abbrev pub invariant-loop-number : goal.invariant-loop-number
invariant-loop-number g l =
    AppendsAllBut (g.O.Sink.taken l.initial.out) (g.O.Sink.taken l.out) (flat_map number_after (drop l.number-index l.numbers)) (flat_map number_after l.numbers)
    × (g.O.Sink.faults l.out ≡ g.O.Sink.faults l.initial.out)
