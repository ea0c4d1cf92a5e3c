use Rattle.std.proofs.Common.{◌+◌, arith}
use Rattle.dd_alias.proofs.StepLemmas.{inside_slice}
use Rattle.dd_alias.proofs.step.Step.at.Goals as goal

pub returns-clause-inside : goal.returns-clause-inside
returns-clause-inside c = λ j p low high within.
    inside_slice c.around.result c.args.pieces.now c.args.place c.next_of-next.result j p c.around.ensures c.next_of-next.ensures.within low high

pub returns-clause-own : goal.returns-clause-own
returns-clause-own c = λ p.
    inside_slice c.around-2.result c.args.pieces.now c.args.place (c.args.place + 1) c.args.place p c.around-2.ensures (omega arith) (omega arith) (omega arith)
