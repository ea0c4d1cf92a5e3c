use Rattle.std.proofs.Common.{◌-◌, ◌/◌, arith}
use Rattle.dd_alias.proofs.congruence.lead.Goals as goal

pub returns-then-from-to-clause-leads : goal.returns-then-from-to-clause-leads
returns-then-from-to-clause-leads c =
    let whole = (c.complement.ensures.exact c.complement.result).1 (0, omega arith) in
    (0, whole.0, omega (arith, whole.1))

pub returns-else-from-to-clause-leads : goal.returns-else-from-to-clause-leads
returns-else-from-to-clause-leads c = ((c.args.to - c.args.from) / c.args.gap, 0, omega arith)
