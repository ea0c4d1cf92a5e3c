use Rattle.std.proofs.Common.{arith}
use Rattle.dd_alias.proofs.StepLemmas.{steps_all, steps_more}
use Rattle.dd_alias.proofs.index.steps_of.Goals as goal

pub loop-place-preserved : goal.loop-place-preserved
loop-place-preserved c =
    rw c.in_ok-push.ensures.items (steps_more c.args.pieces.now c.loop-place.place c.loop-place.steps.items c.at.result c.loop-place-test.true c.loop-place.invariant c.at.ensures.leads c.at.ensures.inside c.at.ensures.own)

pub returns : goal.returns
returns c = steps_all c.args.pieces.now c.loop-place.place c.loop-place.steps.items (omega arith) c.loop-place.invariant
