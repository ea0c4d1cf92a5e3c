-- The victim is Here, and was taken out.
use Rattle.std.proofs.Common.{◌≡◌, ℕ, Bor, None, sym, ap, subst}
use Rattle.dd_blocks.specs.declared.plan.Plan.{Plan}
use Rattle.dd_blocks.specs.WellFormed.{IsWellFormed}
use Rattle.dd_holding.proofs.ChangedLemmas.{others_of}
use Rattle.dd_holding.proofs.HereLemmas.{not_missing, place_there, pool_place, sound_now, versions_here}
use Rattle.dd_holding.proofs.SlotsLemmas.{here_slot, leaving_here, no_slot, taken}
use Rattle.dd_holding.proofs.SpareLemmas.{spare_taken, steady}
use Rattle.dd_holding.specs.Quiet.{is_steady}
use Rattle.dd_ledger.specs.declared.ledger.Ledger.{Ledger}
use Rattle.dd_ledger.specs.Ledgers.{state_now}
use Rattle.dd_machine.specs.declared.copy_state.CopyState.TheVariants.{Leaving}
use Rattle.dd_machine.specs.declared.event.Event.{Event}
use Rattle.dd_machine.specs.declared.event.Event.TheVariants.{Pick}
use Rattle.dd_machine.specs.Effects.{after, in_state}
use Rattle.dd_machine.specs.Legal.{May, MayPick}
use Rattle.dd_machine.specs.Tests.{Has, is_here}
use Rattle.laws_of_limits.proofs.OrdersKept.{victim_there}
use Rattle.dd_holding.proofs.holding.Holding.pick.Goals as goal

here : (l : Ledger) (ev : Event) (space block : ℕ) → IsWellFormed l.plan.now → ev ≡ Pick space block → May l.plan.now (state_now l) ev → Has (state_now l) space block is_here
here l ev space block well event may =
    let picks : MayPick l.plan.now (state_now l) space block = subst (May l.plan.now (state_now l)) event may in
    (sound_now l well).limits.order_here space block (victim_there l.plan.now (state_now l) space block picks.is_victim).0

pub take-requires-after_bounds : goal.take-requires-after_bounds
take-requires-after_bounds g c = λ _ _.
    let x = c.args.self.now in
    let is = here x.ledger c.args.entry.event c.args.space c.args.block c.requires.well c.requires.event c.requires.legal.1 in
    pool_place x.ledger x.pool c.args.space c.args.block x.facts (place_there x.ledger is_here c.args.space c.args.block is)

pub invariant_of-self : goal.invariant_of-self
invariant_of-self g c =
    let x = c.args.self.now in
    let l = x.ledger in
    let st = state_now l in
    let is = here l c.args.entry.event c.args.space c.args.block c.requires.well c.requires.event c.requires.legal.1 in
    let place = place_there l is_here c.args.space c.args.block is in
    let has = c.take.ensures.left in
    let grows = c.leave.ensures.grows in
    let planned = ap (λ (p : Bor Plan). p.now) x.facts.planned in
    record {
      facts = taken l c.leave.new.self x.pool c.take.new.self c.args.entry c.args.space c.args.block (in_state Leaving (st.copies c.args.space c.args.block)) grows
          (ap (λ (e : Event). (after l.plan.now st e).copies) c.requires.event) (leaving_here (st.copies c.args.space c.args.block)) has
          (no_slot l x.pool c.args.space c.args.block place x.facts (here_slot (st.copies c.args.space c.args.block) is)) x.facts;
      spare = steady l c.leave.new.self c.take.new.self c.args.entry grows c.requires.legal.1 (ap is_steady c.requires.event)
          (spare_taken l.plan.now st x.pool c.take.new.self c.args.space c.args.block (others_of l.plan.now x.pool c.take.new.self c.args.space c.args.block None planned has) has.copies.here x.spare);
    }

pub unreachable-requires : goal.unreachable-requires
unreachable-requires g c =
    let x = c.args.self.now in
    let is = here x.ledger c.args.entry.event c.args.space c.args.block c.requires.well c.requires.event c.requires.legal.1 in
    not_missing x.ledger x.pool c.args.space c.args.block x.facts (place_there x.ledger is_here c.args.space c.args.block is) is (sym c.in-None.ensures.value)

pub returns-clause-versions : goal.returns-clause-versions
returns-clause-versions g c =
    let x = c.args.self.now in
    let is = here x.ledger c.args.entry.event c.args.space c.args.block c.requires.well c.requires.event c.requires.legal.1 in
    versions_here x.ledger x.pool c.args.space c.args.block c.in-Some.copy x.facts (place_there x.ledger is_here c.args.space c.args.block is) is (sym c.in-Some.ensures.value)

pub returns-clause-slots : goal.returns-clause-slots
returns-clause-slots g c = λ s b _. c.take.ensures.left.rest.outs s b
