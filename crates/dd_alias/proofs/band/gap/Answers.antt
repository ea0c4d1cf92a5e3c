use Rattle.std.proofs.Common.{arith}
use Rattle.dd_alias.proofs.band.gap.Goals as goal

pub returns-else-gap-clause-line : goal.returns-else-gap-clause-line
returns-else-gap-clause-line c = (c.args.diagonal.now.stride, omega arith)

pub returns-else-gap-clause-rows : goal.returns-else-gap-clause-rows
returns-else-gap-clause-rows c = (c.args.rows.now.stride, omega arith)
