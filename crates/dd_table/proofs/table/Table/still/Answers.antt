-- Where none runs all tasks are done.
use Rattle.std.proofs.Common.{sym, ◌∙◌}
use Rattle.dd_table.specs.Tables.{state_now}
use Rattle.dd_table.proofs.PreparesLemmas.{not_shut, region_of}
use Rattle.dd_table.proofs.RoundsLemmas.{all_done}
use Rattle.dd_table.proofs.table.Table.still.Goals as goal

pub unreachable-requires : goal.unreachable-requires
unreachable-requires g c =
    let t = c.args.self.now in
    not_shut (state_now t).region c.region.result c.requires.lead.open_is (region_of t.holding.ledger c.core.result.now c.region.result c.core.ensures c.region.ensures) c.in_default.is

pub running-requires-clause-open : goal.running-requires-clause-open
running-requires-clause-open g c = λ _ _. region_of c.args.self.now.holding.ledger c.core.result.now c.region.result c.core.ensures c.region.ensures ∙ c.in-Some.is

pub returns-in-0 : goal.returns-in-0
returns-in-0 g c = λ region open_in. all_done c.args.self.now region c.requires.lead open_in c.requires.stand (sym c.running.ensures ∙ c.in-0.is)
