-- The ledger stays.
use Rattle.dd_holding.proofs.QuietLemmas.{stayed}
use Rattle.dd_holding.proofs.SpareLemmas.{still_spare}
use Rattle.dd_holding.proofs.holding.Holding.reserve.Goals as goal

pub invariant_of-self : goal.invariant_of-self
invariant_of-self g c =
    let x = c.args.self.now in
    record {
      facts = stayed x.ledger c.reserve.new.self x.pool c.reserve.ensures.kept x.facts;
      spare = still_spare x.ledger c.reserve.new.self x.pool c.reserve.ensures.kept x.spare;
    }
