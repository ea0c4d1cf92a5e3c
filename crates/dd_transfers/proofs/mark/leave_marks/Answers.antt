use Rattle.std.proofs.Common.{arith}
use Rattle.dd_transfers.specs.declared.mark.Visit.TheVariants.{Leave}
use Rattle.dd_transfers.proofs.ColumnsLemmas.{passed_all, passed_more, passed_none}
use Rattle.dd_transfers.proofs.mark.leave_marks.Goals as goal

pub loop-mark-init : goal.loop-mark-init
loop-mark-init c = passed_none Leave c.args.home c.args.marks.now

pub loop-mark-preserved : goal.loop-mark-preserved
loop-mark-preserved c =
    passed_more Leave c.args.home c.loop-mark.mark-index c.args.marks.now c.loop-mark.marks c.loop-mark.moved c.leave-seen.result.mark c.leave-seen.result.moved (omega (arith, c.loop-mark-test.true, c.loop-mark.auto.marks))
    c.loop-mark.auto.marks c.leave-seen.ensures.mark c.leave-seen.ensures.moved c.loop-mark.invariant

pub returns : goal.returns
returns c =
    let all = passed_all Leave c.args.home c.loop-mark.mark-index c.args.marks.now c.loop-mark.marks c.loop-mark.moved (omega (arith, c.loop-mark-test.false, c.loop-mark.auto.marks)) c.loop-mark.auto.marks c.loop-mark.invariant in
    record { marks = all.0; moved = all.1 }
