use Rattle.std.proofs.Common.{false, IsTrue}
use Rattle.std.proofs.lemmas.List.Elements.{AllWithin-more, at_read}
use Rattle.dd_script.specs.declared.piece.Piece.{Piece}
use Rattle.dd_check.specs.Drafts.{above_of}
use Rattle.dd_check.specs.Seen.{SaysBadRange}
use Rattle.dd_check.proofs.accesses.has_bad_range.Goals as goal

pub loop-piece-preserved : goal.loop-piece-preserved
loop-piece-preserved c =
    AllWithin-more (λ (p : Piece). ¬ SaysBadRange (above_of c.args.draft.now) p) _ 0 _ c.loop-piece.invariant
    (at_read _ (λ (p : Piece). ¬ SaysBadRange (above_of c.args.draft.now) p) _ c.piece-item.result c.loop-piece-test.true c.piece-item.is
    (λ h. let said : IsTrue false = c.if-says_bad_range.ensures.1 h in absurd (cc)))
