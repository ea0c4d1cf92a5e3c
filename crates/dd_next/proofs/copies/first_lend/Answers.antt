use Rattle.dd_next.specs.Candidates.{lends, lends_of}
use Rattle.dd_next.proofs.LeftLemmas.{flat_end, flat_failed, flat_passed}
use Rattle.dd_tables.specs.Tables.{state_of}
use Rattle.dd_next.proofs.copies.first_lend.Goals as goal

pub returns-in-Some : goal.returns-in-Some
returns-in-Some c =
    let plan = c.args.plan.now in
    let st = state_of plan c.args.tables.now in
    flat_passed plan st (lends_of plan c.args.task) c.args.found.now c.loop-block.block-index (lends plan c.args.task c.args.found.now) c.in-Some.event c.loop-block-test.true c.in-Some.ensures c.loop-block.invariant

pub loop-block-preserved : goal.loop-block-preserved
loop-block-preserved c =
    let plan = c.args.plan.now in
    let st = state_of plan c.args.tables.now in
    flat_failed plan st (lends_of plan c.args.task) c.args.found.now c.loop-block.block-index (lends plan c.args.task c.args.found.now) c.loop-block-test.true c.in-None.ensures c.loop-block.invariant

pub returns : goal.returns
returns c =
    let plan = c.args.plan.now in
    let st = state_of plan c.args.tables.now in
    flat_end plan st (lends_of plan c.args.task) c.args.found.now c.loop-block.block-index (lends plan c.args.task c.args.found.now) c.loop-block-test.false c.loop-block.invariant
