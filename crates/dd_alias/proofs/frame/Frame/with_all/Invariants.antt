-- The frame is around all that it was around, and around the extents so far.
use Rattle.std.proofs.Common.{take}
use Rattle.dd_alias.specs.declared.extent.Extent.{Extent}
use Rattle.dd_alias.specs.Frames.{AreInside, IsInside}
use Rattle.dd_alias.proofs.frame.Frame.with_all.Given as goal

abbrev pub invariant-loop-extent : goal.invariant-loop-extent
invariant-loop-extent l = record {
  before : (e : Extent) → IsInside l.self e → IsInside l.frame e;
  added : AreInside l.frame (take l.extent-index l.extents);
}
