use Rattle.dd_ledger.proofs.FactsLemmas.{is_core}
use Rattle.dd_ledger.proofs.ledger.Ledger.line.Goals as goal

pub line-requires : goal.line-requires
line-requires c = let l = c.args.self.now in is_core l.plan.now l.core l.journal.items l.first_pick l.owed c.requires l.facts
