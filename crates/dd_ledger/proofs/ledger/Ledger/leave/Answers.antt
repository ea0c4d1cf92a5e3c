use Rattle.std.proofs.Common.{ℕ, ap, ◌∙◌, arith}
use Rattle.dd_machine.specs.Runs.{is_pick}
use Rattle.dd_ledger.specs.Picks.{or_first}
use Rattle.dd_ledger.proofs.EnteredLemmas.{entered, final_opens}
use Rattle.dd_ledger.proofs.FactsLemmas.{is_core}
use Rattle.dd_ledger.proofs.ledger.Ledger.leave.Goals as goal

pub finish-requires-clause-core : goal.finish-requires-clause-core
finish-requires-clause-core c =
    let l = c.args.self.now in is_core l.plan.now l.core l.journal.items l.first_pick l.owed c.requires.well l.facts

pub invariant_of-self-clause-facts : goal.invariant_of-self-clause-facts
invariant_of-self-clause-facts c =
    let l = c.args.self.now in
    entered l.plan.now l.core c.finish.new.self l.journal.items c.push_reserved.new.self.items c.args.entry l.first_pick c.or_first-self.result l.owed l.owed c.requires.well l.facts
    c.requires.legal c.finish.ensures.value c.finish.ensures.core.sized c.push_reserved.ensures.items
    (c.or_first-self.ensures ∙ ap (λ (n : ℕ). or_first l.first_pick n (is_pick c.args.entry.event)) (c.len.ensures ∙ l.journal.ok.0))
    (let none = final_opens c.args.entry.event c.requires.kind in omega (arith, none, c.requires.other))
