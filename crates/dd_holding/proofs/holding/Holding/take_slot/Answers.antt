-- The slot was taken out.
use Rattle.std.proofs.Common.{None}
use Rattle.dd_holding.proofs.HereLemmas.{pool_place}
use Rattle.dd_holding.proofs.SlotsLemmas.{same_copies, slot_taken}
use Rattle.dd_holding.proofs.SpareLemmas.{spare_kept}
use Rattle.dd_ledger.specs.Ledgers.{state_now}
use Rattle.dd_holding.proofs.holding.Holding.take_slot.Goals as goal

pub invariant_of-self : goal.invariant_of-self
invariant_of-self g c =
    let x = c.args.self.now in
    let left = c.take_out.ensures.left in
    record {
      facts = slot_taken x.ledger x.pool c.take_out.new.self c.args.space c.args.block left x.facts;
      spare = spare_kept x.ledger.plan.now (state_now x.ledger) x.pool c.take_out.new.self (λ s b _. same_copies x.pool c.take_out.new.self c.args.space c.args.block None left s b) x.spare;
    }

pub returns-clause-left : goal.returns-clause-left
returns-clause-left g c =
    let x = c.args.self.now in
    let left = c.take_out.ensures.left in
    record { here = left.here; others = λ s b is apart. left.others s b (pool_place x.ledger x.pool s b x.facts is) apart }
