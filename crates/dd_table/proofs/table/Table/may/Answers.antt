use Rattle.dd_table.proofs.FactsLemmas.{core_of}
use Rattle.dd_table.proofs.table.Table.may.Goals as goal

pub legal-requires-clause-core : goal.legal-requires-clause-core
legal-requires-clause-core g c = core_of c.args.self.now.holding.ledger c.plan.result c.core.result.now c.requires.well c.plan.ensures c.core.ensures
