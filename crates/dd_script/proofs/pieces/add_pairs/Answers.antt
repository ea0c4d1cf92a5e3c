use Rattle.std.proofs.Common.{rules}
use Rattle.dd_script.proofs.GatheredLemmas.{adds_none, adds_more, item_faults}
use Rattle.dd_script.proofs.pieces.add_pairs.Goals as goal

pub loop-pair-init : goal.loop-pair-init
loop-pair-init c = adds_none _ _

pub loop-pair-preserved : goal.loop-pair-preserved
loop-pair-preserved c =
    adds_more _ _ _ _ _ _ _ c.loop-pair-test.true c.pair-item.is c.loop-pair.invariant c.in_ok-add_pair.ensures.ok

pub returns-in_err-add_pair-clause-err : goal.returns-in_err-add_pair-clause-err
returns-in_err-add_pair-clause-err c =
    item_faults c.from_residual.result _ c.args.pairs.now _ _ c.loop-pair-test.true c.pair-item.is (search rules)
