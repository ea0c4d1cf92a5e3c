-- A task that runs is of an open region, so a line is left; and its work's mark speaks of fewer entries than there are.
use Rattle.std.proofs.Common.{◌≡◌, ◌∷◌, [], ℕ, true, ap, arith, refl, subst, sym}
use Rattle.dd_holding.specs.Holdings.{Holds}
use Rattle.dd_machine.specs.declared.event.Event.TheVariants.{Finish}
use Rattle.dd_machine.specs.Tests.{is_running}
use Rattle.dd_core.specs.Lines.{with_line}
use Rattle.dd_table.specs.Tables.{line_now, state_now}
use Rattle.dd_table.proofs.CalmLemmas.{calm_finish}
use Rattle.dd_table.proofs.ClaimedLemmas.{told_front}
use Rattle.dd_table.proofs.FactsLemmas.{keeps_next}
use Rattle.dd_table.proofs.PreparesLemmas.{left_running}
use Rattle.dd_table.proofs.table.Table.finish.Goals as goal

pub line-line-requires-clause-left : goal.line-line-requires-clause-left
line-line-requires-clause-left g c = λ _ _. left_running c.args.self.now.holding.ledger c.args.work.task c.requires.well (ap is_running c.requires.work.out.running)

pub finish-requires-clause-legal : goal.finish-requires-clause-legal
finish-requires-clause-legal g c = λ _ _.
    (c.line-line.ensures.next, subst (λ (x : ℕ). is_running ((state_now c.args.self.now).tasks x) ≡ true) (sym c.task.ensures) (ap is_running c.requires.work.out.running))

pub finish-requires-clause-told : goal.finish-requires-clause-told
finish-requires-clause-told g c = λ _ _ telling.
    c.requires.work.told (told_front g.D.Slot.Slot.tells c.args.work.picked c.args.work.number c.args.self.now.holding.ledger.journal.items c.requires.work.out.picked telling)

pub invariant_of-self : goal.invariant_of-self
invariant_of-self g c =
    let t = c.args.self.now in
    let f = keeps_next t c.finish.new.self _ c.finish.ensures.grows c.finish.ensures.slots (calm_finish t.holding.ledger.plan.now (state_now t) c.task.result) refl in
    record { settled = f.settled; counted = f.counted }

pub returns : goal.returns
returns g c =
    let t = c.args.self.now in
    let y = c.finish.new.self in
    record {
      grows = record {
        holds = subst (λ (x : ℕ). Holds t.holding y (with_line (line_now t) (Finish x ∷ []))) c.task.ensures
            (subst (λ (n : ℕ). Holds t.holding y (with_line n (Finish c.task.result ∷ []))) c.line-line.ensures.line c.finish.ensures.grows);
        opening = refl;
        faults = omega arith;
      };
      cause = refl;
    }
