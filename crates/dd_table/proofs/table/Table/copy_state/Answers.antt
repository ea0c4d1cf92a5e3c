use Rattle.std.proofs.Common.{ap, ◌∙◌, option_map}
use Rattle.dd_core.specs.Cores.{core_state}
use Rattle.dd_machine.specs.States as states
use Rattle.dd_tables.specs.declared.tables.Tables.{Tables}
use Rattle.dd_table.proofs.table.Table.copy_state.Goals as goal

pub returns : goal.returns
returns g c =
    let plan = c.args.self.now.holding.ledger.plan.now in
    c.copy.ensures.state plan ∙ ap (λ (k : Tables). option_map (λ (x : states.Copy). x.state) ((core_state plan k).copies c.args.space c.args.block)) c.core.ensures
