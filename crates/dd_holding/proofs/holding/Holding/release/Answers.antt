-- Names alone changed.
use Rattle.std.proofs.Common.{ap}
use Rattle.dd_holding.proofs.ChangedLemmas.{same_holding}
use Rattle.dd_holding.proofs.FactsLemmas.{no_growth}
use Rattle.dd_holding.proofs.SpareLemmas.{spare_kept}
use Rattle.dd_ledger.specs.Ledgers.{state_now}
use Rattle.dd_pool.specs.declared.copies.Copies.{Copies}
use Rattle.dd_pool.specs.Copies.{held_at}
use Rattle.dd_holding.proofs.holding.Holding.release.Goals as goal

pub invariant_of-self : goal.invariant_of-self
invariant_of-self g c =
    let x = c.args.self.now in
    let has = c.release.ensures.names in
    record {
      facts = same_holding x.ledger x.ledger x.pool c.release.new.self (no_growth x.ledger) has.plan (λ s b _. ap (λ (k : Copies). held_at k s b) has.copies) (λ s b _. has.outs s b) x.facts;
      spare = spare_kept x.ledger.plan.now (state_now x.ledger) x.pool c.release.new.self (λ s b _. ap (λ (k : Copies). held_at k s b) has.copies) x.spare;
    }
