-- A copy that was called may come, and its slot is gone then.
use Rattle.std.proofs.Common.{[], ◌∷◌, refl}
use Rattle.dd_ledger.specs.Ledgers.{state_now}
use Rattle.dd_machine.specs.declared.event.Event.TheVariants.{Call, Come}
use Rattle.dd_core.specs.Lines.{with_line}
use Rattle.dd_table.proofs.FactsLemmas.{err_then, holds_then, ok_then}
use Rattle.dd_table.proofs.StepsLemmas.{come_may, legal_next, settled_called}
use Rattle.dd_table.proofs.spilling.come_back.Goals as goal

pub come-slot-requires-clause-legal : goal.come-slot-requires-clause-legal
come-slot-requires-clause-legal g c = λ _ _.
    let l = c.args.holding.now.ledger in
    legal_next l c.note.new.self.ledger (record { line = c.args.line; event = Call c.args.space c.args.block }) (record { line = c.args.line; event = Come c.args.space c.args.block }) c.in_ok-note.ensures.ok.grows
    (c.requires.legal.0, come_may l.plan.now (state_now l) c.args.space c.args.block c.requires.legal.1)

pub returns-clause-ok : goal.returns-clause-ok
returns-clause-ok g c =
    ok_then c.come-slot.result.1 c.come-slot.ensures.ok
    (λ q. holds_then c.args.holding.now c.note.new.self c.come-slot.new.self (with_line c.args.line (Call c.args.space c.args.block ∷ [])) (with_line c.args.line (Come c.args.space c.args.block ∷ [])) c.in_ok-note.ensures.ok q)

pub returns-clause-err : goal.returns-clause-err
returns-clause-err g c =
    err_then c.come-slot.result.1 c.come-slot.ensures.err
    (λ q. record {
      done = Call c.args.space c.args.block ∷ [];
      rest = Come c.args.space c.args.block ∷ [];
      all = refl;
      holds = holds_then c.args.holding.now c.note.new.self c.come-slot.new.self (with_line c.args.line (Call c.args.space c.args.block ∷ [])) [] c.in_ok-note.ensures.ok q;
    })

pub returns-clause-settled : goal.returns-clause-settled
returns-clause-settled g c =
    ok_then c.come-slot.result.1 c.come-slot.ensures.ok
    (λ q. settled_called c.args.holding.now c.note.new.self c.come-slot.new.self c.args.line c.args.space c.args.block c.in_ok-note.ensures.ok q c.in_ok-note.ensures.slots c.come-slot.ensures.left c.requires.settled)
