-- Tasks were led on so far, and one is Held; or no entry was made. The bound of the region falls.
use Rattle.dd_table.proofs.PreparesLemmas.{cost_of}
use Rattle.dd_table.proofs.RoundsLemmas.{IsAhead}
use Rattle.dd_table.proofs.table.Table.next.Given as goal

abbrev pub invariant-loop-step : goal.invariant-loop-step
invariant-loop-step g l = IsAhead l.initial.self l.self

abbrev pub decreases-loop-step : goal.decreases-loop-step
decreases-loop-step g l = cost_of l.self
