-- The task was led on so far, and is Held; the bound of the region falls.
use Rattle.dd_table.specs.Leading.{HasServed}
use Rattle.dd_table.proofs.PreparesLemmas.{cost_of}
use Rattle.dd_table.proofs.table.Table.serve_all.Given as goal

abbrev pub invariant-loop-event : goal.invariant-loop-event
invariant-loop-event g l = HasServed l.initial.self l.self l.task l.served

abbrev pub decreases-loop-event : goal.decreases-loop-event
decreases-loop-event g l = cost_of l.self
