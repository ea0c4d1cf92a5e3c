-- The position is behind the events so far, and the rest comes next there where all do at first.
use Rattle.std.proofs.Common.{◌↔◌, ◌≤◌, drop}
use Rattle.dd_core.proofs.DueLemmas.{ComeNext}
use Rattle.dd_machine.specs.Words.{rows}
use Rattle.dd_core.proofs.due.come_next.Given as goal

abbrev pub invariant-loop-event : goal.invariant-loop-event
invariant-loop-event l = (l.at.0 ≤ rows l.plan)
    × (ComeNext l.plan (record { row = l.at.0; made = l.at.1 }) l.line (drop l.event-index l.events) ↔ ComeNext l.plan (record { row = l.row; made = l.made }) l.line l.events)
