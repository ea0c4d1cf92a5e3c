use Rattle.std.proofs.Common.{sym}
use Rattle.std.proofs.lemmas.List.{take_all}
use Rattle.std.proofs.lemmas.List.Elements.{All-same}
use Rattle.dd_alias.specs.declared.extent.Extent.{Extent}
use Rattle.dd_alias.specs.Frames.{IsInside}
use Rattle.dd_alias.proofs.FrameLemmas.{around_more}
use Rattle.dd_alias.proofs.frame.Frame.with_all.Goals as goal

pub loop-extent-preserved : goal.loop-extent-preserved
loop-extent-preserved c = record {
  before = λ e inside. c.with-frame.ensures.before e (c.loop-extent.invariant.before e inside);
  added = around_more c.loop-extent.frame c.with-frame.result c.args.extents.now c.loop-extent.extent-index c.extent-item.result c.extent-item.is c.loop-extent-test.true c.loop-extent.invariant.added c.with-frame.ensures.before c.with-frame.ensures.added;
}

pub returns-clause-added : goal.returns-clause-added
returns-clause-added c =
    All-same (λ (e : Extent). IsInside c.loop-extent.frame e) c.args.extents.now _ (sym (take_all c.loop-extent.extent-index c.args.extents.now c.loop-extent-test.false)) c.loop-extent.invariant.added
