-- A run without entries has no copies, and its store made no slot since it was handed in.
use Rattle.std.proofs.Common.{ap}
use Rattle.dd_table.proofs.FactsLemmas.{counted_start, settled_start}
use Rattle.dd_table.proofs.table.Table.new.Goals as goal

pub invariant_of-result : goal.invariant_of-result
invariant_of-result g c =
    let opening = c.of.result.value in
    let store = c.args.store in
    let x = c.in-Ok.holding in
    record {
      settled = settled_start x _ c.in-Ok.ensures.empty;
      counted = counted_start (g.D.Store.faults opening) (g.D.Store.made opening) (g.D.Store.faults store) (g.D.Store.made store) x.ledger.journal.items
          (ap g.D.Store.faults c.of.ensures) (ap g.D.Store.made c.of.ensures) c.requires.few c.in-Ok.ensures.empty;
    }
