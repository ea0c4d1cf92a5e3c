-- There are no copies and no slots.
use Rattle.std.proofs.Common.{sym, ◌∙◌}
use Rattle.dd_holding.proofs.FactsLemmas.{empty_holding}
use Rattle.dd_holding.proofs.SpareLemmas.{spare_empty}
use Rattle.dd_holding.proofs.holding.Holding.new.Goals as goal

pub invariant_of-result : goal.invariant_of-result
invariant_of-result g c =
    let l = c.in_ok-ledger.ledger in
    record {
      facts = empty_holding l c.in_ok-pool.pool c.in_ok-ledger.ensures.empty (c.in_ok-pool.ensures.plan ∙ sym c.in_ok-ledger.ensures.plan) c.in_ok-pool.ensures.copies c.in_ok-pool.ensures.outs;
      spare = spare_empty l c.in_ok-pool.pool c.in_ok-pool.ensures.copies;
    }
