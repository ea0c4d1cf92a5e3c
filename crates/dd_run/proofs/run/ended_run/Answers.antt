-- The journal of a ledger is a legal run.
use Rattle.std.proofs.Common.{List, sym, ap, ◌∙◌, subst}
use Rattle.dd_machine.specs.declared.entry.Entry.{Entry}
use Rattle.dd_machine.specs.States.{State}
use Rattle.dd_run.specs.Journals.{IsJournal}
use Rattle.dd_run.proofs.run.ended_run.Goals as goal

pub returns-clause-kept : goal.returns-clause-kept
returns-clause-kept g c =
    let ledger = c.args.table.holding.ledger in
    let count = c.close-journal.result.1 in
    subst (λ (entries : List Entry). IsJournal ledger.plan.now 1 entries count) (sym c.close-journal.ensures.journal)
    (c.promises.ensures ledger.plan.now 1 count ledger.journal.items c.requires.well ledger.facts.legal c.requires.claims
    (c.close-journal.ensures.moved ∙ ap (λ (st : State). st.moved) ledger.facts.state))
