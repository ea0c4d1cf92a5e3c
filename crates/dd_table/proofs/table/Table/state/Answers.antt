-- The ledger's core has it.
use Rattle.dd_table.proofs.RunsLemmas.{task_of}
use Rattle.dd_table.proofs.table.Table.state.Goals as goal

pub returns : goal.returns
returns g c = task_of c.args.self.now.holding.ledger c.core.result.now c.args.task c.task.result c.core.ensures c.task.ensures
