use Rattle.std.proofs.Common.{◌+◌, List, [], ◌∷◌, ◌++◌, ap, ◌∙◌, arith}
use Rattle.dd_machine.specs.declared.entry.Entry.{Entry}
use Rattle.dd_machine.specs.Runs.{is_pick}
use Rattle.dd_ledger.proofs.EnteredLemmas.{entered, pickless, step_ends}
use Rattle.dd_ledger.proofs.FactsLemmas.{is_core}
use Rattle.dd_ledger.proofs.PicksLemmas.{first_kept}
use Rattle.dd_ledger.proofs.ledger.Ledger.enter.Goals as goal

pub step-requires-clause-core : goal.step-requires-clause-core
step-requires-clause-core c =
    let l = c.args.self.now in is_core l.plan.now l.core l.journal.items l.first_pick l.owed c.requires.well l.facts

pub invariant_of-self-2-clause-facts : goal.invariant_of-self-2-clause-facts
invariant_of-self-2-clause-facts c =
    let l = c.args.self.now in
    entered l.plan.now l.core c.step.new.self l.journal.items c.push_reserved.new.self.items c.args.entry l.first_pick l.first_pick l.owed (l.owed + c.opens-more.result) c.requires.well l.facts
    c.requires.legal c.in_ok-step.ensures.value c.step.ensures.core.sized
    (c.push_reserved.ensures.items ∙ ap (λ (es : List Entry). es ++ c.args.entry ∷ []) c.reserve.ensures.items)
    (first_kept l.first_pick _ (is_pick c.args.entry.event) (pickless c.args.entry.event c.requires.kind))
    (let none = step_ends c.args.entry.event c.requires.kind in omega (arith, none, c.opens-more.ensures))
