-- What is needed is counted first.
use Rattle.dd_table.specs.Pulls.{pulled}
use Rattle.dd_table.specs.Tables.{state_now}
use Rattle.dd_table.proofs.FactsLemmas.{core_of}
use Rattle.dd_table.proofs.GivesLemmas.{stopped_before}
use Rattle.dd_table.proofs.table.Table.pull.Goals as goal

pub returns-in-Some : goal.returns-in-Some
returns-in-Some g c =
    let t = c.args.self.now in
    stopped_before t (pulled t.holding.ledger.plan.now (state_now t) c.args.block c.args.source) _ c.in-Some.is

pub needed_len-requires-clause-core : goal.needed_len-requires-clause-core
needed_len-requires-clause-core g c = core_of c.args.self.now.holding.ledger c.plan.result c.core.result.now c.requires.well c.plan.ensures c.core.ensures
