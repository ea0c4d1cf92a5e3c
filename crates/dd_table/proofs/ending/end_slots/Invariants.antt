use Rattle.std.proofs.Common.{◌≡◌, ◌≤◌}
use Rattle.dd_table.proofs.EndedLemmas.{HasEndedAll}
use Rattle.dd_table.proofs.ending.end_slots.Given as goal

abbrev pub invariant-loop-i : goal.invariant-loop-i
invariant-loop-i g l = HasEndedAll l.fn.plan l.initial.holding l.holding l.i × (g.D.Store.made l.store ≡ g.D.Store.made l.initial.store) × (g.D.Store.faults l.initial.store ≤ g.D.Store.faults l.store)
