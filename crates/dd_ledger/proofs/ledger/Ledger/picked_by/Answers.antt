use Rattle.std.proofs.Common.{ℕ, Option, ap, ◌∙◌}
use Rattle.dd_ledger.specs.Picks.{is_before}
use Rattle.dd_ledger.proofs.PicksLemmas.{has_before}
use Rattle.dd_ledger.proofs.ledger.Ledger.picked_by.Goals as goal

pub returns : goal.returns
returns c =
    let l = c.args.self.now in
    c.is_before.ensures ∙ ap (λ (f : Option ℕ). is_before f c.args.number) l.facts.picks ∙ has_before l.journal.items c.args.number
