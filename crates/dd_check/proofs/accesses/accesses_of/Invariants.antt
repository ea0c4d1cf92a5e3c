use Rattle.std.proofs.Common.{take}
use Rattle.dd_check.specs.Drafts.{above_of}
use Rattle.dd_check.specs.Rows.{AreAccesses}
use Rattle.dd_check.specs.Seen.{AreSeen}
use Rattle.dd_check.proofs.accesses.accesses_of.Given as goal

abbrev pub invariant-loop-piece : goal.invariant-loop-piece
invariant-loop-piece l = record {
  accesses : AreAccesses (above_of l.draft) (take l.piece-index l.pieces) l.accesses.items;
  seen : AreSeen l.draft.plan l.accesses.items;
}
