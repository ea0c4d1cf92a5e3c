use Rattle.std.proofs.Common.{sym, ◌∙◌}
use Rattle.dd_machine.specs.Tests.{is_here}
use Rattle.dd_copies.proofs.CellsLemmas.{there_in}
use Rattle.dd_tables.proofs.tables.Tables.has_here.Goals as goal

pub returns-clause-known : goal.returns-clause-known
returns-clause-known c = λ is. (there_in c.args.plan.now c.args.self.now.copies is_here c.args.space c.args.block c.requires.copies (sym c.is_here.ensures ∙ is)).0
