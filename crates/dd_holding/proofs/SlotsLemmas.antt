-- What stays of a holding's facts where slots come and go.
use Rattle.std.proofs.Common.{◌≡◌, ℕ, Bool, true, false, cond, inl, inr, [], ◌∷◌, Bor, Option, Some, None, refl, sym, ap, ◌∙◌, subst}
use Rattle.std.specs.Option.{option_map}
use Rattle.dd_blocks.specs.declared.plan.Plan.{Plan}
use Rattle.dd_holding.specs.Facts.{HasHere, HasSlots, IsHolding, IsTelling, stamps}
use Rattle.dd_holding.specs.Views.{here_versions, is_in_slot, slot_versions}
use Rattle.dd_holding.proofs.ChangedLemmas.{OtherSlots, at_same, here_changed, none_some, one_or_other, others_of, seen_elsewhere, seen_here, slots_changed, told_changed}
use Rattle.dd_holding.proofs.FactsLemmas.{holding_of}
use Rattle.dd_holding.proofs.QuietLemmas.{telling_before}
use Rattle.dd_ledger.specs.declared.ledger.Ledger.{Ledger}
use Rattle.dd_ledger.specs.Ledgers.{GrowsBy, state_now}
use Rattle.dd_ledger.proofs.GrowsLemmas.{state_next}
use Rattle.dd_machine.specs.declared.copy_state.CopyState.{CopyState}
use Rattle.dd_machine.specs.declared.copy_state.CopyState.TheVariants.{Here, Leaving, Out, Coming, Lent}
use Rattle.dd_machine.specs.declared.entry.Entry.{Entry}
use Rattle.dd_machine.specs.Effects.{after, in_state}
use Rattle.dd_machine.specs.States.{Copy, at_copy}
use Rattle.dd_machine.specs.Tests.{is_here, is_in_state, is_leaving, versions_of}
use Rattle.dd_pool.specs.declared.pool.Pool.{Pool}
use Rattle.dd_pool.specs.declared.spilled.Spilled.{Spilled}
use Rattle.dd_pool.specs.Copies.{held_at}
use Rattle.dd_pool.specs.Places.{IsPlace}
use Rattle.dd_pool.specs.Pools.{HasCopy, HasOut, copy_at, out_at}
use Rattle.dd_store.specs.declared.store.Slot.{Ghosts as SlotGhosts}
use Rattle.dd_store.specs.declared.store.Store.{Ghosts}

-- a copy that is Leaving is neither in memory nor in a slot
pub leaving_here : (c : Option Copy) → here_versions (in_state Leaving c) ≡ None
leaving_here None = refl
leaving_here (Some c) = refl

pub leaving_slot : (c : Option Copy) → slot_versions (in_state Leaving c) ≡ None
leaving_slot None = refl
leaving_slot (Some c) = refl

-- one that is Here is in no slot
pub here_slot : (c : Option Copy) → is_in_state is_here c ≡ true → slot_versions c ≡ None
here_slot None is = refl
here_slot (Some c) is = ap (λ (t : Bool). cond t (Some c.versions) None) (by c.state is)
  where
    by : (s : CopyState) → is_here s ≡ true → is_in_slot s ≡ false
    by Here is = refl
    by Leaving is = refl
    by Out is = absurd (let e : false ≡ true = is in cc)
    by Coming is = absurd (let e : false ≡ true = is in cc)
    by (Lent t) is = absurd (let e : false ≡ true = is in cc)

-- so is one that was Leaving
leaving_not : (s : CopyState) → is_leaving s ≡ true → (is_here s ≡ false) × (is_in_slot s ≡ false)
leaving_not Here is = absurd (let e : false ≡ true = is in cc)
leaving_not Leaving is = (refl, refl)
leaving_not Out is = absurd (let e : false ≡ true = is in cc)
leaving_not Coming is = absurd (let e : false ≡ true = is in cc)
leaving_not (Lent t) is = absurd (let e : false ≡ true = is in cc)

pub was_leaving : (c : Option Copy) → is_in_state is_leaving c ≡ true → (here_versions c ≡ None) × (slot_versions c ≡ None)
was_leaving None is = (refl, refl)
was_leaving (Some c) is = (ap (λ (t : Bool). cond t (Some c.versions) None) (leaving_not c.state is).0, ap (λ (t : Bool). cond t (Some c.versions) None) (leaving_not c.state is).1)

-- one that was Leaving and is Out is in a slot, with its versions
pub out_slot : (c : Option Copy) → is_in_state is_leaving c ≡ true → slot_versions (in_state Out c) ≡ Some (versions_of c)
out_slot None is = absurd (let e : false ≡ true = is in cc)
out_slot (Some c) is = refl

pub out_here : (c : Option Copy) → here_versions (in_state Out c) ≡ None
out_here None = refl
out_here (Some c) = refl

module _ {D S : Type 0} {g : Ghosts D S} {h : SlotGhosts S} where
  -- where the state has no versions in a slot there is none
  pub no_slot : (l : Ledger) (pool : Pool D S g h) (space block : ℕ) → IsPlace l.plan.now space block → IsHolding l pool → slot_versions ((state_now l).copies space block) ≡ None
      → (out : Spilled S h) → out_at pool space block ≡ Some out → ⊥
  unfolding HasSlots
  no_slot l pool space block place facts none out there = none_some (slot_versions ((state_now l).copies space block)) out.versions.list none (facts.slots space block out place there)

  -- a copy was taken out of the memory, and the state has it neither Here nor in a slot
  pub taken : (l u : Ledger) (pool now : Pool D S g h) (entry : Entry) (space block : ℕ) (copy : Option Copy) → GrowsBy l u (entry ∷ [])
      → (after l.plan.now (state_now l) entry.event).copies ≡ at_copy (state_now l).copies space block copy → here_versions copy ≡ None
      → HasCopy pool now space block None → ((out : Spilled S h) → out_at pool space block ≡ Some out → ⊥) → IsHolding l pool → IsHolding u now
  taken l u pool now entry space block copy grows is_new view has empty facts =
      let plan = l.plan.now in
      let st = state_now l in
      let new = after plan st entry.event in
      let planned : pool.plan.now ≡ plan = ap (λ (p : Bor Plan). p.now) facts.planned in
      let others = others_of plan pool now space block None planned has in
      let vacant = λ (out : Spilled S h) (there : out_at now space block ≡ Some out). empty out (sym (has.rest.outs space block) ∙ there) in
      let gone : copy_at now space block ≡ None = has.copies.here in
      holding_of l u now new grows.plan (state_next l u entry grows) (has.rest.plan ∙ facts.planned)
      (here_changed plan st new pool now space block (seen_elsewhere here_versions st new space block copy is_new) others
      (ap (option_map stamps) gone ∙ sym (seen_here here_versions st new space block copy is_new ∙ view)) facts.here)
      (slots_changed plan st new pool now space block (λ s b _ apart _. seen_elsewhere slot_versions st new space block copy is_new s b apart) (λ s b _ _. has.rest.outs s b)
      (λ out there. absurd (vacant out there)) facts.slots)
      (λ is.
      told_changed plan pool now space block planned (ap (λ (p : Bor Plan). p.now) has.rest.plan ∙ planned) others (λ s b _ _. has.rest.outs s b)
      (λ c there. none_some (copy_at now space block) c gone there) (λ out there. absurd (vacant out there))
      (facts.told (telling_before (SlotGhosts.tells h) l u entry grows is)))

  -- the copies of a pool of which a slot was changed
  pub same_copies : (pool now : Pool D S g h) (space block : ℕ) (out : Option (Spilled S h)) → HasOut pool now space block out → (s b : ℕ) → copy_at now s b ≡ copy_at pool s b
  same_copies pool now space block out has s b = ap (λ c. held_at c s b) has.rest.copies

  -- a slot was taken out
  pub slot_taken : (l : Ledger) (pool now : Pool D S g h) (space block : ℕ) → HasOut pool now space block None → IsHolding l pool → IsHolding l now
  unfolding HasHere HasSlots
  slot_taken l pool now space block has facts =
      let plan = l.plan.now in
      let planned : pool.plan.now ≡ plan = ap (λ (p : Bor Plan). p.now) facts.planned in
      let now_planned : now.plan.now ≡ plan = ap (λ (p : Bor Plan). p.now) has.rest.plan ∙ planned in
      let same = same_copies pool now space block None has in
      let was : (s b : ℕ) (out : Spilled S h) → IsPlace plan s b → out_at now s b ≡ Some out → out_at pool s b ≡ Some out = still planned in
      record {
        planned = has.rest.plan ∙ facts.planned;
        here = λ s b is. ap (option_map stamps) (same s b) ∙ facts.here s b is;
        slots = λ s b out is there. facts.slots s b out is (was s b out is there);
        told = λ is.
            let told = facts.told is in
            record {
              copies = λ s b copy at there. told.copies s b copy (back s b planned now_planned at) (sym (same s b) ∙ there);
              slots = λ s b out at there. told.slots s b out (back s b planned now_planned at) (was s b out (subst (λ (p : Plan). IsPlace p s b) now_planned at) there);
            };
      }
    where
      back : (s b : ℕ) → pool.plan.now ≡ l.plan.now → now.plan.now ≡ l.plan.now → IsPlace now.plan.now s b → IsPlace pool.plan.now s b
      back s b old new at = subst (λ (p : Plan). IsPlace p s b) (sym old) (subst (λ (p : Plan). IsPlace p s b) new at)

      still : pool.plan.now ≡ l.plan.now → (s b : ℕ) (out : Spilled S h) → IsPlace l.plan.now s b → out_at now s b ≡ Some out → out_at pool s b ≡ Some out
      still old s b out is there = elim (one_or_other s b space block) [
        | inl e ↦ none_some (out_at now s b) out (at_same (out_at now) s b space block e.0 e.1 ∙ has.here) there
        | inr e ↦ sym (has.others s b (subst (λ (p : Plan). IsPlace p s b) (sym old) is) e) ∙ there
      ]

  -- a slot was put, with the versions of a copy that was Leaving
  pub slot_put : (l u : Ledger) (pool now : Pool D S g h) (entry : Entry) (space block : ℕ) (out : Spilled S h) → GrowsBy l u (entry ∷ [])
      → (after l.plan.now (state_now l) entry.event).copies ≡ at_copy (state_now l).copies space block (in_state Out ((state_now l).copies space block))
      → is_in_state is_leaving ((state_now l).copies space block) ≡ true → IsPlace l.plan.now space block → HasOut pool now space block (Some out) → out.versions.list ≡ versions_of ((state_now l).copies space block)
      → (IsTelling (SlotGhosts.tells h) l → out.told.mark ≡ true) → IsHolding l pool → IsHolding u now
  unfolding HasHere
  slot_put l u pool now entry space block out grows is_new leaving place has versions mark facts =
      let plan = l.plan.now in
      let st = state_now l in
      let new = after plan st entry.event in
      let c = st.copies space block in
      let planned : pool.plan.now ≡ plan = ap (λ (p : Bor Plan). p.now) facts.planned in
      let same = same_copies pool now space block (Some out) has in
      let others : OtherSlots plan pool now space block = λ s b is apart. has.others s b (subst (λ (p : Plan). IsPlace p s b) (sym planned) is) apart in
      let none = (was_leaving c leaving).0 in
      holding_of l u now new grows.plan (state_next l u entry grows) (has.rest.plan ∙ facts.planned)
      (here_changed plan st new pool now space block (seen_elsewhere here_versions st new space block (in_state Out c) is_new) (λ s b _ _. same s b)
      (ap (option_map stamps) (same space block) ∙ facts.here space block place ∙ none ∙ sym (seen_here here_versions st new space block (in_state Out c) is_new ∙ out_here c)) facts.here)
      (slots_changed plan st new pool now space block (λ s b _ apart _. seen_elsewhere slot_versions st new space block (in_state Out c) is_new s b apart) others
      (λ o at.
      let e : Some out ≡ Some o = sym has.here ∙ at in
      let one : out ≡ o = (cc) in
      seen_here slot_versions st new space block (in_state Out c) is_new ∙ out_slot c leaving ∙ ap Some (sym versions) ∙ ap (λ (x : Spilled S h). Some x.versions.list) one) facts.slots)
      (λ is.
      let before = telling_before (SlotGhosts.tells h) l u entry grows is in
      let told = facts.told before in
      told_changed plan pool now space block planned (ap (λ (p : Bor Plan). p.now) has.rest.plan ∙ planned) (λ s b _ _. same s b) others
      (λ copy at. told.copies space block copy (subst (λ (p : Plan). IsPlace p space block) (sym planned) place) (sym (same space block) ∙ at))
      (λ o at. let e : Some out ≡ Some o = sym has.here ∙ at in let one : out ≡ o = (cc) in sym (ap (λ (x : Spilled S h). x.told.mark) one) ∙ mark before) told)
