-- The copy was Leaving, so it was neither in memory nor in a slot.
use Rattle.std.proofs.Common.{◌≡◌, ℕ, Some, ap, subst}
use Rattle.dd_holding.proofs.AddsLemmas.{none_of}
use Rattle.dd_holding.proofs.ChangedLemmas.{same_holding}
use Rattle.dd_holding.proofs.FactsLemmas.{no_growth}
use Rattle.dd_holding.proofs.HereLemmas.{out_of_memory, place_there, pool_place}
use Rattle.dd_holding.proofs.SlotsLemmas.{no_slot, same_copies, slot_put, was_leaving}
use Rattle.dd_holding.proofs.SpareLemmas.{spare_kept, steady}
use Rattle.dd_holding.specs.Quiet.{is_steady}
use Rattle.dd_ledger.specs.declared.ledger.Ledger.{Ledger}
use Rattle.dd_ledger.specs.Ledgers.{state_now}
use Rattle.dd_machine.specs.declared.event.Event.{Event}
use Rattle.dd_machine.specs.declared.event.Event.TheVariants.{Gone}
use Rattle.dd_machine.specs.Effects.{after}
use Rattle.dd_machine.specs.Legal.{May, MayGone}
use Rattle.dd_machine.specs.Tests.{Has, is_leaving}
use Rattle.dd_pool.specs.declared.copies.Copies.{Copies}
use Rattle.dd_pool.specs.Copies.{held_at}
use Rattle.dd_holding.proofs.holding.Holding.gone.Goals as goal

leaving : (l : Ledger) (ev : Event) (space block : ℕ) → ev ≡ Gone space block → May l.plan.now (state_now l) ev → Has (state_now l) space block is_leaving
leaving l ev space block event may = let goes : MayGone l.plan.now (state_now l) space block = subst (May l.plan.now (state_now l)) event may in goes.leaving

pub put_out-requires-clause-no_copy : goal.put_out-requires-clause-no_copy
put_out-requires-clause-no_copy g c = λ _ _.
    let x = c.args.self.now in
    let is = leaving x.ledger c.args.entry.event c.args.space c.args.block c.requires.event c.requires.legal.1 in
    out_of_memory x.ledger x.pool c.args.space c.args.block x.facts (place_there x.ledger is_leaving c.args.space c.args.block is) (was_leaving ((state_now x.ledger).copies c.args.space c.args.block) is).0

pub put_out-requires-clause-no_slot : goal.put_out-requires-clause-no_slot
put_out-requires-clause-no_slot g c = λ _ _.
    let x = c.args.self.now in
    let is = leaving x.ledger c.args.entry.event c.args.space c.args.block c.requires.event c.requires.legal.1 in
    none_of _ (no_slot x.ledger x.pool c.args.space c.args.block (place_there x.ledger is_leaving c.args.space c.args.block is) x.facts (was_leaving ((state_now x.ledger).copies c.args.space c.args.block) is).1)

pub invariant_of-self : goal.invariant_of-self
invariant_of-self g c =
    let x = c.args.self.now in
    let l = x.ledger in
    let st = state_now l in
    let is = leaving l c.args.entry.event c.args.space c.args.block c.requires.event c.requires.legal.1 in
    let has = c.in-Ok.ensures.ok in
    let grows = c.leave.ensures.grows in
    record {
      facts = slot_put l c.leave.new.self x.pool c.put_out.new.self c.args.entry c.args.space c.args.block c.args.out grows (ap (λ (e : Event). (after l.plan.now st e).copies) c.requires.event) is
          (place_there l is_leaving c.args.space c.args.block is) has c.requires.versions c.requires.told x.facts;
      spare = steady l c.leave.new.self c.put_out.new.self c.args.entry grows c.requires.legal.1 (ap is_steady c.requires.event)
          (spare_kept l.plan.now st x.pool c.put_out.new.self (λ s b _. same_copies x.pool c.put_out.new.self c.args.space c.args.block (Some c.args.out) has s b) x.spare);
    }

pub invariant_of-self-in-Err-1 : goal.invariant_of-self-in-Err-1
invariant_of-self-in-Err-1 g c =
    let x = c.args.self.now in
    let rest = c.in-Err.ensures.rest in
    record {
      facts = same_holding x.ledger x.ledger x.pool c.put_out.new.self (no_growth x.ledger) rest.plan (λ s b _. ap (λ (k : Copies). held_at k s b) rest.copies) (λ s b _. c.in-Err.ensures.err s b) x.facts;
      spare = spare_kept x.ledger.plan.now (state_now x.ledger) x.pool c.put_out.new.self (λ s b _. ap (λ (k : Copies). held_at k s b) rest.copies) x.spare;
    }

pub returns-in-Ok-clause-ok : goal.returns-in-Ok-clause-ok
returns-in-Ok-clause-ok g c =
    let x = c.args.self.now in
    let has = c.in-Ok.ensures.ok in (
      record { grows = c.leave.ensures.grows; names = has.rest.names },
      record { here = has.here; others = λ s b is apart. has.others s b (pool_place x.ledger x.pool s b x.facts is) apart },
    )
