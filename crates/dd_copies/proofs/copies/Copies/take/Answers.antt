use Rattle.std.proofs.Common.{None, ap, ◌∙◌}
use Rattle.dd_copies.specs.CopyTables.{copies_of, seen}
use Rattle.dd_copies.proofs.CellsLemmas.{table_kept, table_set}
use Rattle.dd_copies.proofs.copies.Copies.take.Goals as goal

pub returns-clause-left : goal.returns-clause-left
returns-clause-left c = rw c.empty.ensures.rest (table_set c.args.self.now c.args.space c.args.block None c.requires.space c.requires.block)

pub returns-clause-seen : goal.returns-clause-seen
unfolding copies_of
returns-clause-seen c = ap seen c.empty.ensures.value

pub returns-clause-table : goal.returns-clause-table
returns-clause-table c = λ n m is. rw c.empty.ensures.rest (table_kept n m c.args.self.now c.args.space c.args.block None c.requires.space is)
