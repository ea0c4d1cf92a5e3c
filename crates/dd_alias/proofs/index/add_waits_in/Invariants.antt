-- The numbers so far are the old ones and those found among the extents so far.
use Rattle.dd_alias.specs.Waits.{IsBeforeOne}
use Rattle.dd_alias.proofs.WaitLemmas.{AreFoundBefore}
use Rattle.dd_alias.proofs.index.add_waits_in.Given as goal

abbrev pub invariant-loop-extent : goal.invariant-loop-extent
invariant-loop-extent l = AreFoundBefore (IsBeforeOne l.own l.number) l.piece l.extent-index l.initial.found.items l.found.items
