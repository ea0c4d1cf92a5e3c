use Rattle.std.proofs.Common.{ap, ◌∙◌}
use Rattle.dd_tables.specs.declared.tables.Tables.{Tables}
use Rattle.dd_table.proofs.table.Table.moved.Goals as goal

pub returns : goal.returns
returns g c = c.moved.ensures c.args.self.now.holding.ledger.plan.now ∙ ap (λ (k : Tables). k.moved) c.core.ensures
