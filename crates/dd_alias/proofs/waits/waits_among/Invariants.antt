-- The numbers so far are those found among the extents so far, and the last one is among them.
use Rattle.std.proofs.Common.{◌≢◌, []}
use Rattle.std.specs.List.{Contains}
use Rattle.dd_alias.specs.Waits.{IsBefore}
use Rattle.dd_alias.proofs.WaitLemmas.{AreFoundBefore}
use Rattle.dd_alias.proofs.waits.waits_among.Given as goal

abbrev pub invariant-loop-extent : goal.invariant-loop-extent
invariant-loop-extent l = record {
  found : AreFoundBefore (IsBefore l.own l.number) l.extents l.extent-index [] l.found.items;
  last : l.last ≢ 0 → Contains l.found.items l.last;
}
