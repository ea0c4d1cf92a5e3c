-- The ledger grew by a quiet entry, or stayed.
use Rattle.dd_holding.proofs.FactsLemmas.{either}
use Rattle.dd_holding.proofs.QuietLemmas.{noted, stayed}
use Rattle.dd_holding.proofs.SpareLemmas.{quiet_steady, steady, still_spare}
use Rattle.dd_holding.proofs.holding.Holding.note.Goals as goal

pub invariant_of-self : goal.invariant_of-self
invariant_of-self g c =
    let x = c.args.self.now in
    let may = c.requires.legal.1 in
    record {
      facts = either c.enter.result c.enter.ensures.ok c.enter.ensures.err
          (λ grows. noted x.ledger c.enter.new.self x.pool c.args.entry grows may c.requires.quiet x.facts)
          (λ grows. stayed x.ledger c.enter.new.self x.pool grows x.facts);
      spare = either c.enter.result c.enter.ensures.ok c.enter.ensures.err
          (λ grows. steady x.ledger c.enter.new.self x.pool c.args.entry grows may (quiet_steady c.args.entry.event c.requires.quiet) x.spare)
          (λ grows. still_spare x.ledger c.enter.new.self x.pool grows x.spare);
    }
