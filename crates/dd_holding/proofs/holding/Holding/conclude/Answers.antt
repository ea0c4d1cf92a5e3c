-- The ledger grew by a quiet entry.
use Rattle.dd_holding.proofs.QuietLemmas.{noted}
use Rattle.dd_holding.proofs.SpareLemmas.{quiet_steady, steady}
use Rattle.dd_holding.proofs.holding.Holding.conclude.Goals as goal

pub invariant_of-self : goal.invariant_of-self
invariant_of-self g c =
    let x = c.args.self.now in
    let may = c.requires.legal.1 in
    record {
      facts = noted x.ledger c.finish.new.self x.pool c.args.entry c.finish.ensures may c.requires.quiet x.facts;
      spare = steady x.ledger c.finish.new.self x.pool c.args.entry c.finish.ensures may (quiet_steady c.args.entry.event c.requires.quiet) x.spare;
    }
