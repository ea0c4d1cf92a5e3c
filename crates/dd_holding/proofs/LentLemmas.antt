-- A slot that was taken out to be read, and put back.
use Rattle.std.proofs.Common.{◌≡◌, ℕ, true, ◌&&◌, inl, inr, Bor, Some, None, sym, ap, ◌∙◌, subst}
use Rattle.std.specs.Option.{option_map}
use Rattle.std.specs.Prelude.{is_some}
use Rattle.std.proofs.lemmas.Bool.{and_from}
use Rattle.dd_blocks.specs.declared.plan.Plan.{Plan}
use Rattle.dd_holding.specs.Facts.{HasHere, HasSlots, IsHolding, IsTelling, stamps}
use Rattle.dd_holding.proofs.ChangedLemmas.{at_same, one_or_other}
use Rattle.dd_holding.proofs.HereLemmas.{out_of_memory, pool_place}
use Rattle.dd_holding.proofs.PickedLemmas.{tells_now}
use Rattle.dd_holding.proofs.ShiftLemmas.{slot_here, slot_picked, slot_seen}
use Rattle.dd_ledger.specs.declared.ledger.Ledger.{Ledger}
use Rattle.dd_ledger.specs.Ledgers.{state_now}
use Rattle.dd_machine.specs.Tests.{versions_of}
use Rattle.dd_pool.specs.declared.pool.Pool.{Pool}
use Rattle.dd_pool.specs.declared.spilled.Spilled.{Spilled}
use Rattle.dd_pool.specs.Copies.{held_at}
use Rattle.dd_pool.specs.Places.{IsPlace}
use Rattle.dd_pool.specs.Pools.{HasOut, copy_at, out_at}
use Rattle.dd_pool.specs.Spilled.{KeepsSpilled}
use Rattle.dd_store.specs.declared.store.Slot.{Ghosts as SlotGhosts}
use Rattle.dd_store.specs.declared.store.Store.{Ghosts}

module _ {D S : Type 0} {g : Ghosts D S} {h : SlotGhosts S} where
  -- where there is a slot there is no copy in memory
  pub slot_alone : (l : Ledger) (pool : Pool D S g h) (space block : ℕ) (out : Spilled S h) → IsHolding l pool → IsPlace l.plan.now space block → out_at pool space block ≡ Some out → copy_at pool space block ≡ None
  unfolding HasSlots
  slot_alone l pool space block out facts place there =
      let c = (state_now l).copies space block in
      out_of_memory l pool space block facts place (slot_here c (slot_seen c out.versions.list (facts.slots space block out place there)).0)

  pub slot_versions_are : (l : Ledger) (pool : Pool D S g h) (space block : ℕ) (out : Spilled S h) → IsHolding l pool → IsPlace l.plan.now space block → out_at pool space block ≡ Some out
      → out.versions.list ≡ versions_of ((state_now l).copies space block)
  unfolding HasSlots
  slot_versions_are l pool space block out facts place there =
      sym (slot_seen ((state_now l).copies space block) out.versions.list (facts.slots space block out place there)).1

  -- what is read of it is true where slots tell
  pub read_told : (l : Ledger) (pool : Pool D S g h) (space block : ℕ) (out : Spilled S h) → IsHolding l pool → IsPlace l.plan.now space block → out_at pool space block ≡ Some out
      → IsTelling (SlotGhosts.tells h) l → (out.told.mark && SlotGhosts.tells h) ≡ true
  read_told l pool space block out facts place there tells =
      and_from out.told.mark (SlotGhosts.tells h) ((facts.told tells).slots space block out (pool_place l pool space block facts place) there)
      (tells_now (SlotGhosts.tells h) _ (slot_picked l pool space block out facts place there) tells)

  -- it is back
  pub slot_returned : (l : Ledger) (pool mid now : Pool D S g h) (space block : ℕ) (old new : Spilled S h) → IsPlace l.plan.now space block → out_at pool space block ≡ Some old → HasOut pool mid space block None
      → HasOut mid now space block (Some new) → KeepsSpilled old new → IsHolding l pool → IsHolding l now
  unfolding HasHere HasSlots
  slot_returned l pool mid now space block old new place there taken put kept facts =
      let planned : pool.plan.now ≡ l.plan.now = ap (λ (p : Bor Plan). p.now) facts.planned in
      let mid_planned : mid.plan.now ≡ l.plan.now = ap (λ (p : Bor Plan). p.now) taken.rest.plan ∙ planned in
      let now_planned : now.plan.now ≡ l.plan.now = ap (λ (p : Bor Plan). p.now) put.rest.plan ∙ mid_planned in
      let same = λ (s b : ℕ). ap (λ k. held_at k s b) (put.rest.copies ∙ taken.rest.copies) in
      let others = λ (s b : ℕ) (at : IsPlace l.plan.now s b) (off : s ≡ space → b ≡ block → ⊥).
      put.others s b (subst (λ (p : Plan). IsPlace p s b) (sym mid_planned) at) off ∙ taken.others s b (subst (λ (p : Plan). IsPlace p s b) (sym planned) at) off in
      let back = λ (s b : ℕ) (at : IsPlace now.plan.now s b). subst (λ (p : Plan). IsPlace p s b) (sym planned) (subst (λ (p : Plan). IsPlace p s b) now_planned at) in
      record {
        planned = put.rest.plan ∙ taken.rest.plan ∙ facts.planned;
        here = λ s b at. ap (option_map stamps) (same s b) ∙ facts.here s b at;
        slots = λ s b out at held. elim (one_or_other s b space block) [
          | inl e ↦
              let are : Some new ≡ Some out = sym put.here ∙ sym (at_same (out_at now) s b space block e.0 e.1) ∙ held in
              let one : new ≡ out = (cc) in
              facts.slots s b old at (at_same (out_at pool) s b space block e.0 e.1 ∙ there)
              ∙ ap (λ v. Some v) (sym (ap (λ v. v.list) kept.versions) ∙ ap (λ (x : Spilled S h). x.versions.list) one)
          | inr e ↦ facts.slots s b out at (sym (others s b at e) ∙ held)
        ];
        told = λ tells.
            let told = facts.told tells in
            record {
              copies = λ s b copy at held. told.copies s b copy (back s b at) (sym (same s b) ∙ held);
              slots = λ s b out at held. elim (one_or_other s b space block) [
                | inl e ↦
                    let are : Some new ≡ Some out = sym put.here ∙ sym (at_same (out_at now) s b space block e.0 e.1) ∙ held in
                    let one : new ≡ out = (cc) in
                    sym (ap (λ (x : Spilled S h). x.told.mark) one) ∙ kept.told ∙ told.slots s b old (back s b at) (at_same (out_at pool) s b space block e.0 e.1 ∙ there)
                | inr e ↦ told.slots s b out (back s b at) (sym (others s b (subst (λ (p : Plan). IsPlace p s b) now_planned at) e) ∙ held)
              ];
            };
      }

  pub returned_stands : (l : Ledger) (pool mid now : Pool D S g h) (space block : ℕ) (old new : Spilled S h) → out_at pool space block ≡ Some old → HasOut pool mid space block None
      → HasOut mid now space block (Some new) → IsHolding l pool → (s b : ℕ) → IsPlace l.plan.now s b → is_some (out_at now s b) ≡ is_some (out_at pool s b)
  returned_stands l pool mid now space block old new there taken put facts s b at =
      let planned : pool.plan.now ≡ l.plan.now = ap (λ (p : Bor Plan). p.now) facts.planned in
      let mid_planned : mid.plan.now ≡ l.plan.now = ap (λ (p : Bor Plan). p.now) taken.rest.plan ∙ planned in
      elim (one_or_other s b space block) [
        | inl e ↦ ap is_some (at_same (out_at now) s b space block e.0 e.1 ∙ put.here) ∙ sym (ap is_some (at_same (out_at pool) s b space block e.0 e.1 ∙ there))
        | inr e ↦ ap is_some (put.others s b (subst (λ (p : Plan). IsPlace p s b) (sym mid_planned) at) e ∙ taken.others s b (subst (λ (p : Plan). IsPlace p s b) (sym planned) at) e)
      ]
