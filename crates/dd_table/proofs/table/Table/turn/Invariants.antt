-- Of the tasks so far some were led on; or none was, and each was asked in the state that stands.
use Rattle.dd_table.proofs.RoundsLemmas.{IsRound}
use Rattle.dd_table.proofs.table.Table.turn.Given as goal

abbrev pub invariant-loop-i : goal.invariant-loop-i
invariant-loop-i g l = IsRound l.initial.self l.self l.before l.i l.moved
