use Rattle.dd_copies.proofs.CellsLemmas.{table_kept, table_set}
use Rattle.dd_copies.proofs.copies.Copies.put.Goals as goal

pub returns-clause-value : goal.returns-clause-value
returns-clause-value c = rw c.set.ensures (table_set c.args.self.now c.args.space c.args.block c.args.cell c.requires.space c.requires.block)

pub returns-clause-table : goal.returns-clause-table
returns-clause-table c = λ n m is. rw c.set.ensures (table_kept n m c.args.self.now c.args.space c.args.block c.args.cell c.requires.space is)
