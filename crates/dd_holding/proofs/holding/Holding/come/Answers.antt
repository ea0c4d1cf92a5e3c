-- The slot was taken out, and its copy added.
use Rattle.std.proofs.Common.{◌≡◌, ℕ, None, sym, ◌∙◌, subst}
use Rattle.dd_holding.proofs.AddsLemmas.{come_adds, slot_has}
use Rattle.dd_holding.proofs.HereLemmas.{place_there, pool_place}
use Rattle.dd_holding.proofs.PickedLemmas.{coming_picked, tells_now}
use Rattle.dd_holding.proofs.SlotsLemmas.{same_copies, slot_taken}
use Rattle.dd_holding.proofs.SpareLemmas.{spare_kept}
use Rattle.dd_ledger.specs.declared.ledger.Ledger.{Ledger}
use Rattle.dd_ledger.specs.Ledgers.{state_now}
use Rattle.dd_machine.specs.declared.event.Event.{Event}
use Rattle.dd_machine.specs.declared.event.Event.TheVariants.{Come}
use Rattle.dd_machine.specs.Legal.{May, MayCome}
use Rattle.dd_machine.specs.Tests.{Has, is_coming}
use Rattle.dd_holding.proofs.holding.Holding.come.Goals as goal

coming : (l : Ledger) (ev : Event) (space block : ℕ) → ev ≡ Come space block → May l.plan.now (state_now l) ev → Has (state_now l) space block is_coming
coming l ev space block event may = let comes : MayCome l.plan.now (state_now l) space block = subst (May l.plan.now (state_now l)) event may in comes.coming

pub invariant_of-self : goal.invariant_of-self
invariant_of-self g c =
    let x = c.args.self.now in
    let left = c.take_out.ensures.left in
    record {
      facts = slot_taken x.ledger x.pool c.take_out.new.self c.args.space c.args.block left x.facts;
      spare = spare_kept x.ledger.plan.now (state_now x.ledger) x.pool c.take_out.new.self (λ s b _. same_copies x.pool c.take_out.new.self c.args.space c.args.block None left s b) x.spare;
    }

pub add_from-done-requires-clause-adds : goal.add_from-done-requires-clause-adds
add_from-done-requires-clause-adds g c = λ _ _.
    let x = c.args.self.now in
    let l = x.ledger in
    let is = coming l c.args.entry.event c.args.space c.args.block c.requires.event c.requires.legal.1 in
    let place = place_there l is_coming c.args.space c.args.block is in
    come_adds l.plan.now (state_now l) c.take_out.new.self c.args.entry.event c.args.space c.args.block c.in-Some.out.block c.in-Some.out.versions.list c.requires.event is c.in-Some.ensures.ours.1
    (slot_has l x.pool c.args.space c.args.block c.in-Some.out x.facts place is (sym c.in-Some.ensures.value))

pub add_from-done-requires-clause-told : goal.add_from-done-requires-clause-told
add_from-done-requires-clause-told g c = λ _ _ tells.
    let x = c.args.self.now in
    let l = x.ledger in
    let is = coming l c.args.entry.event c.args.space c.args.block c.requires.event c.requires.legal.1 in
    let place = place_there l is_coming c.args.space c.args.block is in (
      (x.facts.told tells).slots c.args.space c.args.block c.in-Some.out (pool_place l x.pool c.args.space c.args.block x.facts place) (sym c.in-Some.ensures.value),
      tells_now _ _ (coming_picked l c.args.space c.args.block is) tells,
    )

pub returns-clause-left : goal.returns-clause-left
returns-clause-left g c =
    let x = c.args.self.now in
    let l = x.ledger in
    let left = c.take_out.ensures.left in
    let is = coming l c.args.entry.event c.args.space c.args.block c.requires.event c.requires.legal.1 in
    let place = place_there l is_coming c.args.space c.args.block is in
    let kept = c.add_from-done.ensures.slots in
    record {
      here = kept c.args.space c.args.block place ∙ left.here;
      others = λ s b at apart. kept s b at ∙ left.others s b (pool_place l x.pool s b x.facts at) apart;
    }
