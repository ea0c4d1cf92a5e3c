-- What is needed stays so when a copy is lent, and may be copied from it.
use Rattle.std.proofs.Common.{ℕ, List, [], ◌∷◌, length, refl, sym, ap, ◌∙◌, subst}
use Rattle.dd_holding.specs.Carried.{carries}
use Rattle.dd_holding.specs.Holdings.{Holds}
use Rattle.dd_ledger.specs.Ledgers.{state_now}
use Rattle.dd_machine.specs.declared.event.Event.{Event}
use Rattle.dd_machine.specs.declared.event.Event.TheVariants.{Lend}
use Rattle.dd_machine.specs.Effects.{after}
use Rattle.dd_machine.specs.Legal.{May}
use Rattle.dd_core.specs.Lines.{with_line}
use Rattle.dd_table.proofs.FactsLemmas.{holds_then}
use Rattle.dd_table.proofs.StepsLemmas.{legal_next, lent_may, needed_next, settled_lent}
use Rattle.dd_table.proofs.carrying.carry_lent.Goals as goal

pub copy_lent-requires-clause-legal : goal.copy_lent-requires-clause-legal
copy_lent-requires-clause-legal g c = λ _ _.
    let l = c.args.holding.now.ledger in
    let mid = after l.plan.now (state_now l) (Lend c.args.task c.args.block c.args.source) in
    legal_next l c.note.new.self.ledger (record { line = c.args.line; event = Lend c.args.task c.args.block c.args.source }) (record { line = c.args.line; event = c.carried-event.result }) c.in_ok-note.ensures.ok.grows (
      c.requires.legal.0,
      subst (May l.plan.now mid) (sym c.carried-event.ensures)
          (lent_may l.plan.now (state_now l) c.args.task c.args.block c.args.source c.len.result c.requires.legal.1 (c.len.ensures ∙ ap (λ (xs : List ℕ). length xs) c.requires.places)),
    )

pub copy_lent-requires-clause-places : goal.copy_lent-requires-clause-places
copy_lent-requires-clause-places g c = λ _ _.
    let l = c.args.holding.now.ledger in
    c.requires.places ∙ sym (needed_next l c.note.new.self.ledger c.args.line c.args.task c.args.block c.args.source c.in_ok-note.ensures.ok.grows c.requires.legal.1)

pub returns-in-Ok-clause-settled : goal.returns-in-Ok-clause-settled
returns-in-Ok-clause-settled g c =
    settled_lent c.args.holding.now c.note.new.self c.copy_lent.new.self c.args.line c.args.task c.args.block c.args.source c.len.result c.requires.legal.1 c.in_ok-note.ensures.ok
    (subst (λ (e : Event). Holds c.note.new.self c.copy_lent.new.self (record { line = c.args.line; event = e } ∷ [])) c.carried-event.ensures c.in-Ok.ensures.ok) c.in_ok-note.ensures.slots c.in-Ok.ensures.slots
    c.requires.settled

pub returns-in-Some-clause-err : goal.returns-in-Some-clause-err
returns-in-Some-clause-err g c = record {
  done = Lend c.args.task c.args.block c.args.source ∷ [];
  rest = carries c.args.task c.args.block c.args.source (length c.args.places.now.list) ∷ [];
  all = refl;
  holds = holds_then c.args.holding.now c.note.new.self c.copy_lent.new.self (with_line c.args.line (Lend c.args.task c.args.block c.args.source ∷ [])) [] c.in_ok-note.ensures.ok c.in-Err.ensures.err;
}

pub returns-in_default-clause-err : goal.returns-in_default-clause-err
returns-in_default-clause-err g c = record {
  done = Lend c.args.task c.args.block c.args.source ∷ [];
  rest = carries c.args.task c.args.block c.args.source (length c.args.places.now.list) ∷ [];
  all = refl;
  holds = holds_then c.args.holding.now c.note.new.self c.copy_lent.new.self (with_line c.args.line (Lend c.args.task c.args.block c.args.source ∷ [])) [] c.in_ok-note.ensures.ok c.in-Err.ensures.err;
}
