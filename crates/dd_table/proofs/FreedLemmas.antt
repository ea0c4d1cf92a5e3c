-- A copy that is freed, or goes to another space: nothing is under way then, and each copy that is Out has its slot.
use Rattle.std.proofs.Common.{◌≡◌, ℕ, ◌≤◌, true, false, List, [], ◌∷◌, Option, Some, None, Bor, refl, sym, ap, ◌∙◌, subst, ⊎_elim}
use Rattle.std.specs.Prelude.{is_some}
use Rattle.dd_blocks.specs.declared.plan.Plan.{Plan}
use Rattle.dd_causes.specs.Counts.{Rose}
use Rattle.dd_holding.specs.declared.holding.Holding.{Holding}
use Rattle.dd_holding.specs.Holdings.{HasSlot, Holds, state_now}
use Rattle.dd_ledger.proofs.GrowsLemmas.{state_next}
use Rattle.dd_machine.specs.declared.copy_state.CopyState.TheVariants.{Here}
use Rattle.dd_machine.specs.declared.entry.Entry.{Entry}
use Rattle.dd_machine.specs.declared.event.Event.TheVariants.{Free, Shift}
use Rattle.dd_machine.specs.Effects.{after, in_state}
use Rattle.dd_machine.specs.States as states
use Rattle.dd_machine.specs.States.{State, at_copy}
use Rattle.dd_machine.specs.Tests.{is_in_state, is_out}
use Rattle.dd_machine.proofs.ChangesLemmas.{at_copy_tells}
use Rattle.dd_machine.proofs.TestsLemmas.{none_in_state}
use Rattle.dd_pool.specs.declared.spilled.Spilled.{Spilled}
use Rattle.dd_pool.specs.Places.{IsPlace}
use Rattle.dd_pool.specs.Pools.{out_at}
use Rattle.dd_store.specs.declared.store.Slot.{Ghosts as SlotGhosts}
use Rattle.dd_store.specs.declared.store.Store.{Ghosts}
use Rattle.dd_table.specs.declared.fault.RunFault.{RunFault}
use Rattle.dd_table.specs.declared.fault.RunFault.TheVariants.{DiskFault}
use Rattle.dd_table.specs.declared.table.Table.{Table}
use Rattle.dd_table.specs.Facts.{IsSettled}
use Rattle.dd_core.specs.Lines.{with_line}
use Rattle.dd_table.proofs.FactsLemmas.{rose_after, settled_by}
use Rattle.dd_table.proofs.IdleLemmas.{idle_at, idle_in}

-- nothing isn't Out
no_copy_out : {A : Type 0} (c : Option states.Copy) → c ≡ None → is_in_state is_out c ≡ true → A
no_copy_out c none out = absurd (let h : false ≡ true = sym (ap (is_in_state is_out) none) ∙ out in cc)

module _ {D S : Type 0} {g : Ghosts D S} {h : SlotGhosts S} where
  place_old : (x y : Holding D S g h) (xs : List Entry) (s b : ℕ) → Holds x y xs → IsPlace y.ledger.plan.now s b → IsPlace x.ledger.plan.now s b
  place_old x y xs s b holds place = subst (λ (p : Bor Plan). IsPlace p.now s b) holds.grows.plan place

  -- the slot of another place
  slot_stays : (x y : Holding D S g h) (xs : List Entry) (space block s b : ℕ) → Holds x y xs → HasSlot x y space block None → IsPlace y.ledger.plan.now s b → (s ≡ space → b ≡ block → ⊥)
      → is_some (out_at y.pool s b) ≡ is_some (out_at x.pool s b)
  slot_stays x y xs space block s b holds slot place apart = ap (λ (o : Option (Spilled S h)). is_some o) (slot.others s b (place_old x y xs s b holds place) apart)

  pub settled_freed : (x y : Holding D S g h) (line space block : ℕ) → Holds x y (with_line line (Free space block ∷ [])) → HasSlot x y space block None → IsSettled x None → IsSettled y None
  settled_freed x y line space block holds slot settled =
      let plan = x.ledger.plan.now in
      let st = state_now x in
      let entry : Entry = record { line = line; event = Free space block } in
      settled_by y None (after plan st (Free space block)) (state_next x.ledger y.ledger entry holds.grows) (idle_at st.copies space block None (settled.idle refl) (λ there. there))
      (λ s b place is. ⊎_elim
      (λ (e : (s ≡ space) × (b ≡ block) × (at_copy st.copies space block None s b ≡ None)). no_copy_out (at_copy st.copies space block None s b) e.2 is)
      (λ (e : (s ≡ space → b ≡ block → ⊥) × (at_copy st.copies space block None s b ≡ st.copies s b)).
      slot_stays x y (entry ∷ []) space block s b holds slot place e.0 ∙ settled.slots refl s b (sym (ap (is_in_state is_out) e.1) ∙ is))
      (at_copy_tells st.copies space block None s b))

  pub settled_shifted : (x y : Holding D S g h) (line space block : ℕ) → Holds x y (with_line line (Shift block space ∷ [])) → HasSlot x y ((state_now x).homes block) block None → IsSettled x None → IsSettled y None
  settled_shifted x y line space block holds slot settled =
      let plan = x.ledger.plan.now in
      let st = state_now x in
      let home = st.homes block in
      let entry : Entry = record { line = line; event = Shift block space } in
      let rest = at_copy st.copies home block None in
      let new = in_state Here (st.copies home block) in
      settled_by y None (after plan st (Shift block space)) (state_next x.ledger y.ledger entry holds.grows)
      (idle_at rest space block new (idle_at st.copies home block None (settled.idle refl) (λ there. there)) (idle_in Here (st.copies home block) refl))
      (λ s b place is. ⊎_elim
      (λ (e : (s ≡ space) × (b ≡ block) × (at_copy rest space block new s b ≡ new)).
      absurd (let k : false ≡ true = sym (none_in_state is_out Here (st.copies home block) refl) ∙ sym (ap (is_in_state is_out) e.2) ∙ is in cc))
      (λ (e : (s ≡ space → b ≡ block → ⊥) × (at_copy rest space block new s b ≡ rest s b)). ⊎_elim
      (λ (f : (s ≡ home) × (b ≡ block) × (rest s b ≡ None)). no_copy_out (at_copy rest space block new s b) (e.1 ∙ f.2) is)
      (λ (f : (s ≡ home → b ≡ block → ⊥) × (rest s b ≡ st.copies s b)).
      slot_stays x y (entry ∷ []) home block s b holds slot place f.0 ∙ settled.slots refl s b (sym (ap (is_in_state is_out) (e.1 ∙ f.1)) ∙ is))
      (at_copy_tells st.copies home block None s b))
      (at_copy_tells rest space block new s b))

  -- the kept cause still has its count where the store's count hasn't fallen
  pub still_risen : (t : Table D S g h) (store : D) → Ghosts.faults g t.store ≤ Ghosts.faults g store → t.cause ≡ Some DiskFault → Rose (Ghosts.faults g t.opening.value) (Ghosts.faults g store)
  still_risen t store le disk = rose_after (Ghosts.faults g t.opening.value) (Ghosts.faults g t.store) (Ghosts.faults g store) (t.counted.risen disk) le

  -- where a cause is kept, nothing is to be settled
  pub settled_either : (y : Holding D S g h) (cause : Option RunFault) → (cause ≡ None → IsSettled y None) → IsSettled y cause
  settled_either y None settled = settled refl
  settled_either y (Some fault) settled = record { idle = λ none. absurd (cc); slots = λ none. absurd (cc) }

  pub settled_none : (x : Holding D S g h) (cause : Option RunFault) → IsSettled x cause → cause ≡ None → IsSettled x None
  settled_none x cause settled none = subst (λ (c : Option RunFault). IsSettled x c) none settled
