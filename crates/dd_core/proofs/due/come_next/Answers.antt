use Rattle.std.proofs.Common.{◌≡◌, ◌∙◌, rules, sym, refl, get_or, Some}
use Rattle.dd_core.proofs.DueLemmas.{next_at, not_at}
use Rattle.dd_machine.specs.declared.event.Event.TheVariants.{Ask}
use Rattle.dd_machine.specs.States.{Progress}
use Rattle.dd_core.proofs.due.come_next.Goals as goal

pub returns-then-not-is_entry : goal.returns-then-not-is_entry
returns-then-not-is_entry c =
    let p : Progress = record { row = c.loop-event.at.0; made = c.loop-event.at.1 } in
    let event = get_or c.args.events.now c.loop-event.event-index (Ask 0 0) in
    let none : c.next_entry.result ≡ Some (record { line = c.args.line; event = event }) → ⊥ = search rules in
    ((λ is. absurd (search rules)), (λ are. absurd (not_at c.args.plan.now p c.args.line c.loop-event.event-index c.args.events.now (Ask 0 0) _ c.loop-event-test.true (λ next. none (c.next_entry.ensures ∙ next)) c.loop-event.invariant.1 are)))

pub loop-event-preserved : goal.loop-event-preserved
loop-event-preserved c =
    let event = get_or c.args.events.now c.loop-event.event-index (Ask 0 0) in
    let is : c.next_entry.result ≡ Some (record { line = c.args.line; event = event }) = search rules in
    let next = sym c.next_entry.ensures ∙ is in
    (c.one_more-at.ensures.there (rw next refl), next_at c.args.plan.now _ _ c.args.line c.loop-event.event-index c.args.events.now (Ask 0 0) _ c.loop-event-test.true next c.one_more-at.ensures.value c.loop-event.invariant.1)
