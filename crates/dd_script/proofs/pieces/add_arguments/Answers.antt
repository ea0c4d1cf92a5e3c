use Rattle.std.proofs.Common.{rules}
use Rattle.dd_script.specs.Pieces.{pieces_of}
use Rattle.dd_script.proofs.GatheredLemmas.{adds_none, adds_more, item_faults, all_at}
use Rattle.dd_script.proofs.pieces.add_arguments.Goals as goal

pub loop-argument-init : goal.loop-argument-init
loop-argument-init c = adds_none _ _

pub loop-argument-preserved : goal.loop-argument-preserved
loop-argument-preserved c =
    adds_more _ _ _ _ _ _ _ c.loop-argument-test.true c.argument-item.is c.loop-argument.invariant c.in_ok-add_argument.ensures.ok

pub returns-in_err-add_argument-clause-err : goal.returns-in_err-add_argument-clause-err
returns-in_err-add_argument-clause-err c =
    item_faults c.from_residual.result pieces_of c.args.arguments.now _ _ c.loop-argument-test.true c.argument-item.is (search rules)

pub add_argument-requires : goal.add_argument-requires
add_argument-requires c = all_at _ _ _ _ c.requires c.loop-argument-test.true c.argument-item.is
