use Rattle.std.proofs.Common.{◌≡◌, ◌≤◌}
use Rattle.dd_table.proofs.EndedLemmas.{HasEnded}
use Rattle.dd_table.proofs.ending.end_slots_of.Given as goal

abbrev pub invariant-loop-i : goal.invariant-loop-i
invariant-loop-i g l = HasEnded l.fn.plan l.initial.holding l.holding l.space l.i × (g.D.Store.made l.store ≡ g.D.Store.made l.initial.store) × (g.D.Store.faults l.initial.store ≤ g.D.Store.faults l.store)
