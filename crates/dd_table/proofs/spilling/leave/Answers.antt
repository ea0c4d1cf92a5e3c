-- The victim is Here, so it may leave; its slot has the versions that it had.
use Rattle.std.proofs.Common.{sym, ap, ◌∙◌}
use Rattle.dd_holding.proofs.HereLemmas.{place_there}
use Rattle.dd_holding.proofs.QuietLemmas.{telling_before}
use Rattle.dd_ledger.specs.Ledgers.{state_now}
use Rattle.dd_ledger.proofs.GrowsLemmas.{state_next}
use Rattle.dd_machine.specs.declared.event.Event.TheVariants.{Gone, Pick}
use Rattle.dd_machine.specs.States.{State}
use Rattle.dd_machine.specs.Tests.{is_here, versions_of}
use Rattle.dd_spans.specs.declared.run_map.RunMap.{RunMap}
use Rattle.dd_table.proofs.StepsLemmas.{gone_may, legal_next, picked_here, picked_versions, settled_spilled}
use Rattle.dd_table.proofs.spilling.leave.Goals as goal

pub gone-requires-clause-legal : goal.gone-requires-clause-legal
gone-requires-clause-legal g c = λ _ _.
    let l = c.args.holding.now.ledger in
    let here = picked_here l c.args.space c.args.block c.requires.well c.requires.legal.1 in
    legal_next l c.pick-copy.new.self.ledger (record { line = c.args.line; event = Pick c.args.space c.args.block }) (record { line = c.args.line; event = Gone c.args.space c.args.block }) c.pick-copy.ensures.grows.grows
    (c.requires.legal.0, gone_may l.plan.now (state_now l) c.args.space c.args.block (place_there l is_here c.args.space c.args.block here) here)

pub gone-requires-clause-versions : goal.gone-requires-clause-versions
gone-requires-clause-versions g c = λ _ _.
    let l = c.args.holding.now.ledger in
    ap (λ (v : RunMap). v.list) c.in-Ok.ensures.versions ∙ c.pick-copy.ensures.versions ∙ sym (picked_versions l.plan.now (state_now l) c.args.space c.args.block)
    ∙ sym (ap (λ (st : State). versions_of (st.copies c.args.space c.args.block)) (state_next l c.pick-copy.new.self.ledger (record { line = c.args.line; event = Pick c.args.space c.args.block }) c.pick-copy.ensures.grows.grows))

pub gone-requires-clause-told : goal.gone-requires-clause-told
gone-requires-clause-told g c = λ _ _ telling.
    let l = c.args.holding.now.ledger in
    c.in-Ok.ensures.told ∙ c.pick-copy.ensures.told (telling_before g.D.Slot.Slot.tells l c.pick-copy.new.self.ledger (record { line = c.args.line; event = Pick c.args.space c.args.block }) c.pick-copy.ensures.grows.grows telling)

pub returns-in-Ok-gone-clause-settled : goal.returns-in-Ok-gone-clause-settled
returns-in-Ok-gone-clause-settled g c =
    settled_spilled c.args.holding.now c.pick-copy.new.self c.gone.new.self c.args.line c.args.space c.args.block c.in-Ok.out c.pick-copy.ensures.grows c.in-Ok-gone.ensures.ok.0 c.pick-copy.ensures.slots
    c.in-Ok-gone.ensures.ok.1 c.requires.settled
