use Rattle.std.proofs.Common.{List, subst, sym}
use Rattle.std.proofs.lemmas.List.{take_all}
use Rattle.std.proofs.lemmas.List.Elements.{All-same}
use Rattle.dd_alias.specs.declared.extent.Extent.{Extent}
use Rattle.dd_alias.specs.Frames.{AreInside}
use Rattle.dd_alias.proofs.FrameLemmas.{pieces_more}
use Rattle.dd_alias.proofs.frame.Frame.around.Goals as goal

pub loop-piece-preserved : goal.loop-piece-preserved
loop-piece-preserved c =
    let p : List Extent = c.piece-item.result in
    let frame = c.with_all-frame.result in
    let added : AreInside frame p = subst (λ (q : List Extent). AreInside frame q) c.as_slice.ensures c.with_all-frame.ensures.added in
    pieces_more c.loop-piece.frame frame c.args.pieces.now c.loop-piece.piece-index p c.piece-item.is c.loop-piece-test.true c.loop-piece.invariant c.with_all-frame.ensures.before added

pub returns : goal.returns
returns c =
    All-same (λ (p : List Extent). AreInside c.loop-piece.frame p) c.args.pieces.now _ (sym (take_all c.loop-piece.piece-index c.args.pieces.now c.loop-piece-test.false)) c.loop-piece.invariant
