use Rattle.std.proofs.Common.{arith}
use Rattle.dd_transfers.specs.declared.mark.Visit.TheVariants.{Read}
use Rattle.dd_transfers.proofs.ColumnsLemmas.{passed_all, passed_more, passed_none}
use Rattle.dd_transfers.proofs.mark.read_marks.Goals as goal

pub loop-mark-init : goal.loop-mark-init
loop-mark-init c = passed_none (Read c.args.space) c.args.home c.args.marks.now

pub loop-mark-preserved : goal.loop-mark-preserved
loop-mark-preserved c =
    passed_more (Read c.args.space) c.args.home c.loop-mark.mark-index c.args.marks.now c.loop-mark.marks c.loop-mark.moved c.read-seen.result.mark c.read-seen.result.moved (omega (arith, c.loop-mark-test.true, c.loop-mark.auto.marks))
    c.loop-mark.auto.marks c.read-seen.ensures.mark c.read-seen.ensures.moved c.loop-mark.invariant

pub returns : goal.returns
returns c =
    let all = passed_all (Read c.args.space) c.args.home c.loop-mark.mark-index c.args.marks.now c.loop-mark.marks c.loop-mark.moved (omega (arith, c.loop-mark-test.false, c.loop-mark.auto.marks)) c.loop-mark.auto.marks c.loop-mark.invariant in
    record { marks = all.0; moved = all.1 }
