-- What entries leave that touch no values.
use Rattle.std.proofs.Common.{◌≡◌, ℕ, Bool, true, false, cond, not, ◌||◌, List, [], ◌∷◌, Option, Some, None, refl, sym, ap, ◌∙◌, append-nil}
use Rattle.dd_blocks.specs.declared.plan.Plan.{Plan}
use Rattle.dd_holding.specs.Facts.{HasHere, HasSlots, IsHolding, IsTelling}
use Rattle.dd_holding.specs.Quiet.{is_quiet}
use Rattle.dd_holding.specs.Views.{here_versions, is_in_slot, slot_versions}
use Rattle.dd_holding.proofs.FactsLemmas.{holding_of}
use Rattle.dd_ledger.specs.declared.ledger.Ledger.{Ledger}
use Rattle.dd_ledger.specs.Ledgers.{GrowsBy, state_now}
use Rattle.dd_ledger.proofs.GrowsLemmas.{picks_grown, state_next, state_stays}
use Rattle.dd_machine.specs.declared.copy_state.CopyState.{CopyState}
use Rattle.dd_machine.specs.declared.copy_state.CopyState.TheVariants.{Here, Leaving, Out, Coming, Lent}
use Rattle.dd_machine.specs.declared.entry.Entry.{Entry}
use Rattle.dd_machine.specs.declared.event.Event.{Event}
use Rattle.dd_machine.specs.declared.event.Event.TheVariants as event
use Rattle.dd_machine.specs.Effects.{after, after_rest, in_state}
use Rattle.dd_machine.specs.Legal.{May}
use Rattle.dd_machine.specs.Runs.{has_pick, is_pick}
use Rattle.dd_machine.specs.States.{Copy, State}
use Rattle.dd_machine.specs.Tests.{is_here, is_in_state, is_out}
use Rattle.dd_machine.proofs.TestsLemmas.{same_at}
use Rattle.dd_pool.specs.declared.pool.Pool.{Pool}
use Rattle.dd_store.specs.declared.store.Slot.{Ghosts as SlotGhosts}
use Rattle.dd_store.specs.declared.store.Store.{Ghosts}

-- a Rest leaves the copies
rest_copies : (plan : Plan) (st : State) (pin : Option (ℕ × ℕ)) → (after_rest plan st pin).copies ≡ st.copies
rest_copies plan st None = refl
rest_copies plan st (Some p) = refl

-- a copy that is Out and comes into a state in which it is still in a slot
out_away : (s : CopyState) → is_out s ≡ true → is_here s ≡ false
out_away Here is = absurd (let e : false ≡ true = is in cc)
out_away Leaving is = refl
out_away Out is = refl
out_away Coming is = refl
out_away (Lent t) is = refl

out_in : (s : CopyState) → is_out s ≡ true → is_in_slot s ≡ true
out_in Here is = is
out_in Leaving is = is
out_in Out is = refl
out_in Coming is = refl
out_in (Lent t) is = refl

out_here : (new : CopyState) (c : Option Copy) → is_in_state is_out c ≡ true → is_here new ≡ false → here_versions (in_state new c) ≡ here_versions c
out_here new None is away = refl
out_here new (Some c) is away = ap (λ (t : Bool). cond t (Some c.versions) None) (away ∙ sym (out_away c.state is))

out_slot : (new : CopyState) (c : Option Copy) → is_in_state is_out c ≡ true → is_in_slot new ≡ true → slot_versions (in_state new c) ≡ slot_versions c
out_slot new None is in_slot = refl
out_slot new (Some c) is in_slot = ap (λ (t : Bool). cond t (Some c.versions) None) (in_slot ∙ sym (out_in c.state is))

-- what is seen of a copy by its versions in a state
abbrev View : Type 0
View = Option Copy → Option (List ℕ)

no_more : {A : Type 0} → false ≡ true → A
no_more e = absurd (cc)

-- a view stays at a quiet event, where it stays when a copy that is Out is called or lent
quiet_view : (view : View) (plan : Plan) (st : State) (ev : Event) → is_quiet ev ≡ true → May plan st ev
    → ((new : CopyState) (c : Option Copy) → is_in_state is_out c ≡ true → is_here new ≡ false → is_in_slot new ≡ true → view (in_state new c) ≡ view c)
    → (s b : ℕ) → view ((after plan st ev).copies s b) ≡ view (st.copies s b)
quiet_view view plan st (event.Ask space block) quiet may out s b = refl
quiet_view view plan st event.Rest quiet may out s b = ap (λ (copies : ℕ → ℕ → Option Copy). view (copies s b)) (rest_copies plan st st.pin)
quiet_view view plan st (event.Put block) quiet may out s b = no_more quiet
quiet_view view plan st (event.Shift block space) quiet may out s b = no_more quiet
quiet_view view plan st (event.Free space block) quiet may out s b = no_more quiet
quiet_view view plan st (event.Begin region) quiet may out s b = refl
quiet_view view plan st (event.Hold task) quiet may out s b = refl
quiet_view view plan st (event.Pick space block) quiet may out s b = no_more quiet
quiet_view view plan st (event.Gone space block) quiet may out s b = no_more quiet
quiet_view view plan st (event.Make task block) quiet may out s b = no_more quiet
quiet_view view plan st (event.Call space block) quiet may out s b =
    same_at view st.copies space block (in_state Coming (st.copies space block)) (out Coming (st.copies space block) may.out refl refl) s b
quiet_view view plan st (event.Come space block) quiet may out s b = no_more quiet
quiet_view view plan st (event.Lend task block source) quiet may out s b =
    same_at view st.copies source block (in_state (Lent task) (st.copies source block)) (out (Lent task) (st.copies source block) may.out refl refl) s b
quiet_view view plan st (event.Copy task block source count) quiet may out s b = no_more quiet
quiet_view view plan st (event.Claim task worker) quiet may out s b = no_more quiet
quiet_view view plan st (event.Finish task) quiet may out s b = no_more quiet
quiet_view view plan st (event.Back block source count) quiet may out s b = no_more quiet
quiet_view view plan st (event.Close region) quiet may out s b = refl

-- where slots tell, or a journal has no Pick, that held before the last entry too
pub telling_before : (tells : Bool) (l u : Ledger) (entry : Entry) → GrowsBy l u (entry ∷ []) → IsTelling tells u → IsTelling tells l
telling_before tells l u entry grows is =
    less tells (has_pick l.journal.items) (is_pick entry.event) (sym (ap (λ (b : Bool). (tells || not b)) (picks_grown l u entry grows)) ∙ is)
  where
    less : (tells a p : Bool) → (tells || not (a || p)) ≡ true → (tells || not a) ≡ true
    less true a p is = refl
    less false false p is = refl
    less false true p is = is

pub telling_kept : (tells : Bool) (l u : Ledger) → GrowsBy l u [] → IsTelling tells u → IsTelling tells l
telling_kept tells l u grows is = sym (ap (λ (es : List Entry). (tells || not (has_pick es))) (grows.journal ∙ append-nil l.journal.items)) ∙ is

module _ {D S : Type 0} {g : Ghosts D S} {h : SlotGhosts S} where
  pub here_still : (plan : Plan) (st new : State) (pool : Pool D S g h) → ((s b : ℕ) → here_versions (new.copies s b) ≡ here_versions (st.copies s b)) → HasHere plan st pool → HasHere plan new pool
  unfolding HasHere
  here_still plan st new pool same here = λ s b is. here s b is ∙ sym (same s b)

  pub slots_still : (plan : Plan) (st new : State) (pool : Pool D S g h) → ((s b : ℕ) → slot_versions (new.copies s b) ≡ slot_versions (st.copies s b)) → HasSlots plan st pool → HasSlots plan new pool
  unfolding HasSlots
  slots_still plan st new pool same slots = λ s b out is there. same s b ∙ slots s b out is there

  -- a quiet entry keeps the facts
  pub noted : (l u : Ledger) (pool : Pool D S g h) (entry : Entry) → GrowsBy l u (entry ∷ []) → May l.plan.now (state_now l) entry.event → is_quiet entry.event ≡ true → IsHolding l pool → IsHolding u pool
  noted l u pool entry grows may quiet facts =
      let st = state_now l in
      let new = after l.plan.now st entry.event in
      holding_of l u pool new grows.plan (state_next l u entry grows) facts.planned
      (here_still l.plan.now st new pool (quiet_view here_versions l.plan.now st entry.event quiet may (λ s c is away _. out_here s c is away)) facts.here)
      (slots_still l.plan.now st new pool (quiet_view slot_versions l.plan.now st entry.event quiet may (λ s c is _ in_slot. out_slot s c is in_slot)) facts.slots)
      (λ is. facts.told (telling_before (SlotGhosts.tells h) l u entry grows is))

  -- so does a ledger that stays
  pub stayed : (l u : Ledger) (pool : Pool D S g h) → GrowsBy l u [] → IsHolding l pool → IsHolding u pool
  stayed l u pool grows facts =
      holding_of l u pool (state_now l) grows.plan (state_stays l u grows) facts.planned facts.here facts.slots (λ is. facts.told (telling_kept (SlotGhosts.tells h) l u grows is))
