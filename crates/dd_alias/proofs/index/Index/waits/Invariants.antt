-- The numbers so far are those found for the own extents so far.
use Rattle.dd_alias.proofs.WaitLemmas.{AreWaitsOf}
use Rattle.dd_alias.proofs.index.Index.waits.Given as goal

abbrev pub invariant-loop-extent : goal.invariant-loop-extent
invariant-loop-extent l = AreWaitsOf l.self l.own l.number l.extent-index l.found.items
