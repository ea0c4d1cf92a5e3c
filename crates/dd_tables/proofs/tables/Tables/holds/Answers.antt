use Rattle.std.proofs.Common.{sym, ◌∙◌}
use Rattle.dd_tables.proofs.WorkLemmas.{active_known}
use Rattle.dd_tables.proofs.tables.Tables.holds.Goals as goal

pub returns-clause-known : goal.returns-clause-known
returns-clause-known c = λ is. active_known c.args.plan.now c.args.self.now c.args.task c.requires (sym c.is_task_held.ensures ∙ is)
