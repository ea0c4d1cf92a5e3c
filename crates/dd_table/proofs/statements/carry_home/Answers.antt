-- The copy is Here in the other space, and has no slot.
use Rattle.dd_table.proofs.FactsLemmas.{ok_then}
use Rattle.dd_table.proofs.FreedLemmas.{settled_shifted}
use Rattle.dd_table.proofs.statements.carry_home.Goals as goal

pub returns-in-Some-clause-settled : goal.returns-in-Some-clause-settled
returns-in-Some-clause-settled g c =
    ok_then c.shift-slot.result.1 c.shift-slot.ensures.ok
    (λ q. settled_shifted c.args.holding.now c.shift-slot.new.self c.args.line c.args.space c.args.block q c.shift-slot.ensures.left c.requires.settled)

pub returns-in_default-clause-settled : goal.returns-in_default-clause-settled
returns-in_default-clause-settled g c =
    ok_then c.shift-slot.result.1 c.shift-slot.ensures.ok
    (λ q. settled_shifted c.args.holding.now c.shift-slot.new.self c.args.line c.args.space c.args.block q c.shift-slot.ensures.left c.requires.settled)
