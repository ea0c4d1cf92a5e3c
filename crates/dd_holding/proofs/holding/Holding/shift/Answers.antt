-- A home copy in a slot is read, and one in memory goes as it is.
use Rattle.std.proofs.Common.{◌≡◌, ℕ, true, false, Option, None, sym, ap, ◌∙◌, subst}
use Rattle.std.specs.Prelude.{IsSome, IsSomeAnd, is_some}
use Rattle.dd_causes.specs.Counts.{Rose}
use Rattle.dd_core.specs.Cores.{core_state}
use Rattle.dd_holding.specs.Holdings.{HasSlot}
use Rattle.dd_holding.specs.Views.{here_versions}
use Rattle.dd_holding.proofs.HereLemmas.{pool_place}
use Rattle.dd_holding.proofs.PickedLemmas.{tells_now}
use Rattle.dd_holding.proofs.ShiftLemmas.{IsShift, home_place, no_slot_there, none_there, shift_adds, shift_from_memory, slot_picked}
use Rattle.dd_holding.proofs.SlotsLemmas.{same_copies, slot_taken}
use Rattle.dd_holding.proofs.SpareLemmas.{spare_kept}
use Rattle.dd_ledger.specs.declared.ledger.Ledger.{Ledger}
use Rattle.dd_ledger.specs.Ledgers.{state_now}
use Rattle.dd_machine.specs.Tests.{Has, is_out}
use Rattle.dd_pool.specs.declared.spilled.Spilled.{Spilled}
use Rattle.dd_pool.specs.Pools.{out_at}
use Rattle.dd_tables.specs.declared.tables.Tables.{Tables}
use Rattle.dd_holding.proofs.holding.Holding.shift.Goals as goal

home_is : (l : Ledger) (core : Tables) (block space : ℕ) → space ≡ (core_state l.plan.now core).homes block → core ≡ l.core → space ≡ (state_now l).homes block
home_is l core block space is same = is ∙ ap (λ (k : Tables). (core_state l.plan.now k).homes block) same

some_none : {A : Type 0} (o : Option A) → IsSome o → o ≡ None → ⊥
some_none o some none = let e : true ≡ false = sym some ∙ ap is_some none in absurd (cc)

pub take_out-requires-after_bounds : goal.take_out-requires-after_bounds
take_out-requires-after_bounds g c = λ _ _.
    let x = c.args.self.now in
    let l = x.ledger in
    let home = home_is l c.core.result.now c.args.block c.home-home.result (c.home-home.ensures l.plan.now) c.core.ensures in
    let is : IsShift l c.args.entry c.args.block c.args.space c.home-home.result = record { well = c.requires.well; legal = c.requires.legal; event = c.requires.event; home_is = home } in
    pool_place l x.pool c.home-home.result c.args.block x.facts (home_place l c.args.entry c.args.block c.args.space c.home-home.result is)

pub invariant_of-self : goal.invariant_of-self
invariant_of-self g c =
    let x = c.args.self.now in
    let left = c.take_out.ensures.left in
    record {
      facts = slot_taken x.ledger x.pool c.take_out.new.self c.home-home.result c.args.block left x.facts;
      spare = spare_kept x.ledger.plan.now (state_now x.ledger) x.pool c.take_out.new.self (λ s b _. same_copies x.pool c.take_out.new.self c.home-home.result c.args.block None left s b) x.spare;
    }

pub shift_here-requires-clause-home : goal.shift_here-requires-clause-home
shift_here-requires-clause-home g c = λ _ _.
    let l = c.args.self.now.ledger in
    home_is l c.core.result.now c.args.block c.home-home.result (c.home-home.ensures l.plan.now) c.core.ensures

pub shift_here-requires-clause-here : goal.shift_here-requires-clause-here
shift_here-requires-clause-here g c = λ _ _.
    let x = c.args.self.now in
    let l = x.ledger in
    let home = home_is l c.core.result.now c.args.block c.home-home.result (c.home-home.ensures l.plan.now) c.core.ensures in
    let is : IsShift l c.args.entry c.args.block c.args.space c.home-home.result = record { well = c.requires.well; legal = c.requires.legal; event = c.requires.event; home_is = home } in
    shift_from_memory l c.args.entry c.args.block c.args.space c.home-home.result is (λ out.
    let some = c.requires.slot (subst (λ (s : ℕ). Has (state_now l) s c.args.block is_out) home out) in
    some_none (out_at x.pool ((state_now l).homes c.args.block) c.args.block) some (sym (c.in_default.ensures.value ∙ ap (λ (s : ℕ). out_at x.pool s c.args.block) home)))

pub returns-in_default-clause-left : goal.returns-in_default-clause-left
returns-in_default-clause-left g c =
    let x = c.args.self.now in
    let l = x.ledger in
    let home = home_is l c.core.result.now c.args.block c.home-home.result (c.home-home.ensures l.plan.now) c.core.ensures in
    let is : IsShift l c.args.entry c.args.block c.args.space c.home-home.result = record { well = c.requires.well; legal = c.requires.legal; event = c.requires.event; home_is = home } in
    let left = c.take_out.ensures.left in
    let kept = c.shift_here.ensures.slots in
    subst (λ (s : ℕ). HasSlot x c.shift_here.new.self s c.args.block None) home (record {
      here = kept c.home-home.result c.args.block (home_place l c.args.entry c.args.block c.args.space c.home-home.result is) ∙ left.here;
      others = λ s b at apart. kept s b at ∙ left.others s b (pool_place l x.pool s b x.facts at) apart;
    })

pub add_from-done-requires-clause-adds : goal.add_from-done-requires-clause-adds
add_from-done-requires-clause-adds g c = λ _ _.
    let x = c.args.self.now in
    let l = x.ledger in
    let home = home_is l c.core.result.now c.args.block c.home-home.result (c.home-home.ensures l.plan.now) c.core.ensures in
    let is : IsShift l c.args.entry c.args.block c.args.space c.home-home.result = record { well = c.requires.well; legal = c.requires.legal; event = c.requires.event; home_is = home } in
    shift_adds l x.pool c.take_out.new.self c.args.entry c.args.block c.args.space c.home-home.result c.in-Some.out.block c.in-Some.out is x.facts c.in-Some.ensures.ours.1 (sym c.in-Some.ensures.value) c.take_out.ensures.left.here

pub add_from-done-requires-clause-not_here : goal.add_from-done-requires-clause-not_here
add_from-done-requires-clause-not_here g c = λ _ _.
    let l = c.args.self.now.ledger in
    let home = home_is l c.core.result.now c.args.block c.home-home.result (c.home-home.ensures l.plan.now) c.core.ensures in
    let is : IsShift l c.args.entry c.args.block c.args.space c.home-home.result = record { well = c.requires.well; legal = c.requires.legal; event = c.requires.event; home_is = home } in
    ap (λ (n : ℕ). here_versions ((state_now l).copies c.args.space n)) c.in-Some.ensures.ours.1 ∙ ap here_versions (none_there l c.args.entry c.args.block c.args.space c.home-home.result is)

pub add_from-done-requires-clause-no_slot : goal.add_from-done-requires-clause-no_slot
add_from-done-requires-clause-no_slot g c = λ _ _.
    let x = c.args.self.now in
    let l = x.ledger in
    let left = c.take_out.ensures.left in
    let home = home_is l c.core.result.now c.args.block c.home-home.result (c.home-home.ensures l.plan.now) c.core.ensures in
    let is : IsShift l c.args.entry c.args.block c.args.space c.home-home.result = record { well = c.requires.well; legal = c.requires.legal; event = c.requires.event; home_is = home } in
    ap (λ (n : ℕ). out_at c.take_out.new.self c.args.space n) c.in-Some.ensures.ours.1
    ∙ no_slot_there l c.take_out.new.self c.args.entry c.args.block c.args.space c.home-home.result is (slot_taken l x.pool c.take_out.new.self c.home-home.result c.args.block left x.facts)

pub add_from-done-requires-clause-told : goal.add_from-done-requires-clause-told
add_from-done-requires-clause-told g c = λ _ _ tells.
    let x = c.args.self.now in
    let l = x.ledger in
    let home = home_is l c.core.result.now c.args.block c.home-home.result (c.home-home.ensures l.plan.now) c.core.ensures in
    let is : IsShift l c.args.entry c.args.block c.args.space c.home-home.result = record { well = c.requires.well; legal = c.requires.legal; event = c.requires.event; home_is = home } in
    let place = home_place l c.args.entry c.args.block c.args.space c.home-home.result is in (
      (x.facts.told tells).slots c.home-home.result c.args.block c.in-Some.out (pool_place l x.pool c.home-home.result c.args.block x.facts place) (sym c.in-Some.ensures.value),
      tells_now _ _ (slot_picked l x.pool c.home-home.result c.args.block c.in-Some.out x.facts place (sym c.in-Some.ensures.value)) tells,
    )

pub returns-clause-left : goal.returns-clause-left
returns-clause-left g c =
    let x = c.args.self.now in
    let l = x.ledger in
    let home = home_is l c.core.result.now c.args.block c.home-home.result (c.home-home.ensures l.plan.now) c.core.ensures in
    let is : IsShift l c.args.entry c.args.block c.args.space c.home-home.result = record { well = c.requires.well; legal = c.requires.legal; event = c.requires.event; home_is = home } in
    let left = c.take_out.ensures.left in
    let kept = c.add_from-done.ensures.slots in
    subst (λ (s : ℕ). HasSlot x c.add_from-done.new.self s c.args.block None) home (record {
      here = kept c.home-home.result c.args.block (home_place l c.args.entry c.args.block c.args.space c.home-home.result is) ∙ left.here;
      others = λ s b at apart. kept s b at ∙ left.others s b (pool_place l x.pool s b x.facts at) apart;
    })

pub returns-clause-cause : goal.returns-clause-cause
returns-clause-cause g c = λ disk.
    let x = c.args.self.now in
    let l = x.ledger in
    let home = home_is l c.core.result.now c.args.block c.home-home.result (c.home-home.ensures l.plan.now) c.core.ensures in
    let rose = c.add_from-done.ensures.cause disk in
    subst (λ (o : Option (Spilled _ g.D.Slot.Slot)). IsSomeAnd o (λ was. Rose (g.D.Slot.Slot.faults was.slot) (g.D.Slot.Slot.faults c.into_slot.result)))
    (c.in-Some.ensures.value ∙ ap (λ (s : ℕ). out_at x.pool s c.args.block) home)
    (subst (λ slot. Rose (g.D.Slot.Slot.faults c.in-Some.out.slot) (g.D.Slot.Slot.faults slot)) (sym c.into_slot.ensures) rose)
