-- The frame is around the pieces so far.
use Rattle.std.proofs.Common.{List, take}
use Rattle.std.specs.List.{All}
use Rattle.dd_alias.specs.declared.extent.Extent.{Extent}
use Rattle.dd_alias.specs.Frames.{AreInside}
use Rattle.dd_alias.proofs.frame.Frame.around.Given as goal

abbrev pub invariant-loop-piece : goal.invariant-loop-piece
invariant-loop-piece l = All (λ (p : List Extent). AreInside l.frame p) (take l.piece-index l.pieces)
