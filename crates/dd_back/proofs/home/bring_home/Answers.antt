-- Whether the block is stale is asked of the core.
use Rattle.dd_table.proofs.FactsLemmas.{core_of}
use Rattle.dd_back.proofs.home.bring_home.Goals as goal

pub is_stale-requires-clause-core : goal.is_stale-requires-clause-core
is_stale-requires-clause-core g c = core_of c.args.table.now.holding.ledger c.plan.result c.core.result.now c.requires.well c.plan.ensures c.core.ensures
