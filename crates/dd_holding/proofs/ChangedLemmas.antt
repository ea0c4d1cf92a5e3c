-- What one changed place of a space and a block leaves of a holding's facts.
use Rattle.std.proofs.Common.{◌≡◌, ◌⊎◌, ℕ, true, inl, inr, [], ◌∷◌, Bor, Option, Some, None, sym, ap, ◌∙◌, subst}
use Rattle.std.specs.Option.{option_map}
use Rattle.dd_blocks.specs.declared.plan.Plan.{Plan}
use Rattle.dd_holding.specs.Added.{AddsCopy}
use Rattle.dd_holding.specs.Facts.{AreTold, HasHere, HasSlots, IsHolding, IsTelling, stamps}
use Rattle.dd_holding.specs.Views.{here_versions, slot_versions}
use Rattle.dd_holding.proofs.FactsLemmas.{holding_of}
use Rattle.dd_holding.proofs.QuietLemmas.{telling_before, telling_kept}
use Rattle.dd_ledger.specs.declared.ledger.Ledger.{Ledger}
use Rattle.dd_ledger.specs.Ledgers.{GrowsBy, state_now}
use Rattle.dd_ledger.proofs.GrowsLemmas.{state_next, state_stays}
use Rattle.dd_machine.specs.declared.entry.Entry.{Entry}
use Rattle.dd_machine.specs.Effects.{after}
use Rattle.dd_machine.specs.States.{Copy, State, at_copy}
use Rattle.dd_machine.proofs.ChangesLemmas.{at_copy_other, at_copy_same}
use Rattle.dd_pool.specs.declared.pool.Pool.{Pool}
use Rattle.dd_pool.specs.declared.spilled.Spilled.{Spilled}
use Rattle.dd_pool.specs.Places.{IsPlace}
use Rattle.dd_pool.specs.Pools.{HasCopy, copy_at, out_at}
use Rattle.dd_pool.proofs.CellsLemmas.{same_or_not}
use Rattle.dd_stamps.specs.declared.stamped.Stamped.{Stamped}
use Rattle.dd_store.specs.declared.store.Slot.{Ghosts as SlotGhosts}
use Rattle.dd_store.specs.declared.store.Store.{Ghosts}

-- a place is that of a space and a block, or another
pub one_or_other : (s b space block : ℕ) → ((s ≡ space) × (b ≡ block)) ⊎ (s ≡ space → b ≡ block → ⊥)
one_or_other s b space block = elim (same_or_not s space) [
  | inl e ↦ elim (same_or_not b block) [
    | inl f ↦ inl (e, f)
    | inr f ↦ inr (λ x y. f y)
  ]
  | inr e ↦ inr (λ x y. e x)
]

pub at_same : {A : Type 0} (f : ℕ → ℕ → A) (s b space block : ℕ) → s ≡ space → b ≡ block → f s b ≡ f space block
at_same f s b space block e k = ap (λ (n : ℕ). f n b) e ∙ ap (f space) k

-- nothing there is not something
pub none_some : {A B : Type 0} (o : Option A) (x : A) → o ≡ None → o ≡ Some x → B
none_some o x none there = absurd (let e : None ≡ Some x = sym none ∙ there in cc)

-- what is seen of the copies after one was changed: at its place, and at others
pub seen_here : {A : Type 0} (view : Option Copy → A) (st new : State) (space block : ℕ) (copy : Option Copy) → new.copies ≡ at_copy st.copies space block copy → view (new.copies space block) ≡ view copy
seen_here view st new space block copy is = ap view (ap (λ (c : ℕ → ℕ → Option Copy). c space block) is ∙ at_copy_same st.copies space block copy)

pub seen_elsewhere : {A : Type 0} (view : Option Copy → A) (st new : State) (space block : ℕ) (copy : Option Copy) → new.copies ≡ at_copy st.copies space block copy
    → (s b : ℕ) → (s ≡ space → b ≡ block → ⊥) → view (new.copies s b) ≡ view (st.copies s b)
seen_elsewhere view st new space block copy is s b apart = ap view (ap (λ (c : ℕ → ℕ → Option Copy). c s b) is ∙ at_copy_other st.copies space block copy s b apart)

module _ {D S : Type 0} {g : Ghosts D S} {h : SlotGhosts S} where
  -- the other places have the copies, and the slots, that they had
  abbrev pub OtherCopies : Plan → Pool D S g h → Pool D S g h → ℕ → ℕ → Type 0
  OtherCopies plan pool now space block = (s b : ℕ) → IsPlace plan s b → (s ≡ space → b ≡ block → ⊥) → copy_at now s b ≡ copy_at pool s b

  abbrev pub OtherSlots : Plan → Pool D S g h → Pool D S g h → ℕ → ℕ → Type 0
  OtherSlots plan pool now space block = (s b : ℕ) → IsPlace plan s b → (s ≡ space → b ≡ block → ⊥) → out_at now s b ≡ out_at pool s b

  pub here_changed : (plan : Plan) (st new : State) (pool now : Pool D S g h) (space block : ℕ)
      → ((s b : ℕ) → (s ≡ space → b ≡ block → ⊥) → here_versions (new.copies s b) ≡ here_versions (st.copies s b))
      → OtherCopies plan pool now space block → option_map stamps (copy_at now space block) ≡ here_versions (new.copies space block) → HasHere plan st pool → HasHere plan new now
  unfolding HasHere
  here_changed plan st new pool now space block seen others at here = λ s b is.
      elim (one_or_other s b space block) [
        | inl e ↦ ap (option_map stamps) (at_same (copy_at now) s b space block e.0 e.1) ∙ at ∙ sym (ap here_versions (at_same new.copies s b space block e.0 e.1))
        | inr e ↦ ap (option_map stamps) (others s b is e) ∙ here s b is ∙ sym (seen s b e)
      ]

  pub slots_changed : (plan : Plan) (st new : State) (pool now : Pool D S g h) (space block : ℕ)
      → ((s b : ℕ) (out : Spilled S h) → (s ≡ space → b ≡ block → ⊥) → out_at now s b ≡ Some out → slot_versions (new.copies s b) ≡ slot_versions (st.copies s b))
      → OtherSlots plan pool now space block → ((out : Spilled S h) → out_at now space block ≡ Some out → slot_versions (new.copies space block) ≡ Some out.versions.list) → HasSlots plan st pool
      → HasSlots plan new now
  unfolding HasSlots
  slots_changed plan st new pool now space block seen others at slots = λ s b out is there.
      elim (one_or_other s b space block) [
        | inl e ↦ ap slot_versions (at_same new.copies s b space block e.0 e.1) ∙ at out (sym (at_same (out_at now) s b space block e.0 e.1) ∙ there)
        | inr e ↦ seen s b out e there ∙ slots s b out is (sym (others s b is e) ∙ there)
      ]

  pub told_changed : (plan : Plan) (pool now : Pool D S g h) (space block : ℕ) → pool.plan.now ≡ plan → now.plan.now ≡ plan → OtherCopies plan pool now space block → OtherSlots plan pool now space block
      → ((copy : Stamped) → copy_at now space block ≡ Some copy → copy.told.mark ≡ true) → ((out : Spilled S h) → out_at now space block ≡ Some out → out.told.mark ≡ true)
      → AreTold pool → AreTold now
  told_changed plan pool now space block old_plan new_plan copies slots copy_told out_told told = record {
    copies = λ s b copy is there.
        let place : IsPlace plan s b = subst (λ (p : Plan). IsPlace p s b) new_plan is in
        elim (one_or_other s b space block) [
          | inl e ↦ copy_told copy (sym (at_same (copy_at now) s b space block e.0 e.1) ∙ there)
          | inr e ↦ told.copies s b copy (subst (λ (p : Plan). IsPlace p s b) (sym old_plan) place) (sym (copies s b place e) ∙ there)
        ];
    slots = λ s b out is there.
        let place : IsPlace plan s b = subst (λ (p : Plan). IsPlace p s b) new_plan is in
        elim (one_or_other s b space block) [
          | inl e ↦ out_told out (sym (at_same (out_at now) s b space block e.0 e.1) ∙ there)
          | inr e ↦ told.slots s b out (subst (λ (p : Plan). IsPlace p s b) (sym old_plan) place) (sym (slots s b place e) ∙ there)
        ];
  }

  -- the other copies of a pool of which one was changed, with a plan that is the pool's
  pub others_of : (plan : Plan) (pool now : Pool D S g h) (space block : ℕ) (copy : Option Stamped) → pool.plan.now ≡ plan → HasCopy pool now space block copy → OtherCopies plan pool now space block
  others_of plan pool now space block copy same has = λ s b is apart.
      has.copies.others s b (subst (λ (p : Plan). IsPlace p s b) (sym (ap (λ (p : Bor Plan). p.now) pool.planned ∙ same)) is) apart

  -- a copy that is Here from now on was put
  pub added : (l u : Ledger) (pool now : Pool D S g h) (entry : Entry) (space : ℕ) (copy : Stamped) → GrowsBy l u (entry ∷ [])
      → AddsCopy (state_now l) (after l.plan.now (state_now l) entry.event) pool space copy.block copy.versions.list
      → HasCopy pool now space copy.block (Some copy) → out_at pool space copy.block ≡ None → (IsTelling (SlotGhosts.tells h) l → copy.told.mark ≡ true)
      → IsHolding l pool → IsHolding u now
  added l u pool now entry space copy grows adds has empty mark facts =
      let plan = l.plan.now in
      let st = state_now l in
      let new = after plan st entry.event in
      let block = copy.block in
      let planned : pool.plan.now ≡ plan = ap (λ (p : Bor Plan). p.now) facts.planned in
      let others = others_of plan pool now space block (Some copy) planned has in
      let here : copy_at now space block ≡ Some copy = has.copies.here in
      let vacant : out_at now space block ≡ None = has.rest.outs space block ∙ empty in
      holding_of l u now new grows.plan (state_next l u entry grows) (has.rest.plan ∙ facts.planned)
      (here_changed plan st new pool now space block adds.others others (ap (option_map stamps) here ∙ sym adds.here) facts.here)
      (slots_changed plan st new pool now space block (λ s b out apart there. adds.slots s b out apart (sym (has.rest.outs s b) ∙ there)) (λ s b _ _. has.rest.outs s b)
      (λ out there. none_some (out_at now space block) out vacant there) facts.slots)
      (λ is.
      let before = telling_before (SlotGhosts.tells h) l u entry grows is in
      told_changed plan pool now space block planned (ap (λ (p : Bor Plan). p.now) has.rest.plan ∙ planned) others (λ s b _ _. has.rest.outs s b)
      (λ c there. let same : Some copy ≡ Some c = sym here ∙ there in let one : copy ≡ c = (cc) in sym (ap (λ (x : Stamped). x.told.mark) one) ∙ mark before)
      (λ out there. none_some (out_at now space block) out vacant there) (facts.told before))

  -- a pool with the same copies and slots, beside a ledger that stays
  pub same_holding : (l u : Ledger) (pool now : Pool D S g h) → GrowsBy l u [] → now.plan ≡ pool.plan → ((s b : ℕ) → IsPlace l.plan.now s b → copy_at now s b ≡ copy_at pool s b)
      → ((s b : ℕ) → IsPlace l.plan.now s b → out_at now s b ≡ out_at pool s b) → IsHolding l pool → IsHolding u now
  unfolding HasHere HasSlots
  same_holding l u pool now grows same copies outs facts =
      let planned : pool.plan.now ≡ l.plan.now = ap (λ (p : Bor Plan). p.now) facts.planned in
      let place = λ (s b : ℕ) (is : IsPlace now.plan.now s b). subst (λ (p : Plan). IsPlace p s b) (ap (λ (p : Bor Plan). p.now) same ∙ planned) is in
      let old = λ (s b : ℕ) (is : IsPlace l.plan.now s b). subst (λ (p : Plan). IsPlace p s b) (sym planned) is in
      holding_of l u now (state_now l) grows.plan (state_stays l u grows) (same ∙ facts.planned)
      (λ s b is. ap (option_map stamps) (copies s b is) ∙ facts.here s b is)
      (λ s b out is there. facts.slots s b out is (sym (outs s b is) ∙ there))
      (λ is.
      let told = facts.told (telling_kept (SlotGhosts.tells h) l u grows is) in
      record {
        copies = λ s b copy at there. told.copies s b copy (old s b (place s b at)) (sym (copies s b (place s b at)) ∙ there);
        slots = λ s b out at there. told.slots s b out (old s b (place s b at)) (sym (outs s b (place s b at)) ∙ there);
      })

  -- a copy that was put and taken out again
  pub put_and_taken : (plan : Plan) (pool mid now : Pool D S g h) (space block : ℕ) (copy : Stamped) → pool.plan.now ≡ plan → HasCopy pool mid space block (Some copy) → HasCopy mid now space block None
      → copy_at pool space block ≡ None → (s b : ℕ) → IsPlace plan s b → copy_at now s b ≡ copy_at pool s b
  put_and_taken plan pool mid now space block copy same put taken none s b is =
      let middle : mid.plan.now ≡ plan = ap (λ (p : Bor Plan). p.now) put.rest.plan ∙ same in
      elim (one_or_other s b space block) [
        | inl e ↦ at_same (copy_at now) s b space block e.0 e.1 ∙ taken.copies.here ∙ sym none ∙ sym (at_same (copy_at pool) s b space block e.0 e.1)
        | inr e ↦ others_of plan mid now space block None middle taken s b is e ∙ others_of plan pool mid space block (Some copy) same put s b is e
      ]
