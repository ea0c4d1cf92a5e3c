-- The events that give a space a copy.
use Rattle.std.proofs.Common.{◌≡◌, ℕ, Bool, true, false, cond, List, Option, Some, None, refl, sym, ap, ◌∙◌, subst, ⊎_elim, arith, ◌*◌, ◌≤◌}
use Rattle.std.specs.Prelude.{replicate}
use Rattle.std.proofs.lemmas.Bool.{cases_Bool}
use Rattle.dd_blocks.specs.declared.plan.Plan.{Plan}
use Rattle.dd_blocks.specs.WellFormed.{IsWellFormed}
use Rattle.dd_holding.specs.Added.{AddsCopy}
use Rattle.dd_holding.specs.Facts.{HasSlots, IsHolding}
use Rattle.dd_holding.specs.Users.{wanted}
use Rattle.dd_holding.specs.Views.{here_versions, is_in_slot, slot_versions}
use Rattle.dd_holding.proofs.ChangedLemmas.{seen_elsewhere, seen_here}
use Rattle.dd_holding.proofs.HereLemmas.{sound_now}
use Rattle.dd_holding.proofs.SlotsLemmas.{no_slot}
use Rattle.dd_holding.proofs.SpareLemmas.{unused}
use Rattle.dd_ledger.specs.declared.ledger.Ledger.{Ledger}
use Rattle.dd_ledger.specs.Ledgers.{state_now}
use Rattle.dd_machine.specs.declared.copy_state.CopyState.{CopyState}
use Rattle.dd_machine.specs.declared.copy_state.CopyState.TheVariants.{Here, Leaving, Out, Coming, Lent}
use Rattle.dd_machine.specs.declared.event.Event.{Event}
use Rattle.dd_machine.specs.declared.event.Event.TheVariants.{Come, Make, Put}
use Rattle.dd_machine.specs.Effects.{after, in_state}
use Rattle.dd_machine.specs.States.{Copy, State, at_copy, blank}
use Rattle.dd_machine.specs.Tests.{is_coming, is_here, is_in_state, versions_of}
use Rattle.dd_machine.specs.Words.{place, size}
use Rattle.dd_pool.specs.declared.pool.Pool.{Pool}
use Rattle.dd_pool.specs.declared.spilled.Spilled.{Spilled}
use Rattle.dd_pool.specs.Places.{IsPlace}
use Rattle.dd_pool.specs.Pools.{out_at}
use Rattle.dd_store.specs.declared.store.Slot.{Ghosts as SlotGhosts}
use Rattle.dd_store.specs.declared.store.Store.{Ghosts}

-- where nothing can be there is nothing
pub none_of : {A : Type 0} (o : Option A) → ((x : A) → o ≡ Some x → ⊥) → o ≡ None
none_of None never = refl
none_of (Some x) never = absurd (never x refl)

-- a copy that is coming is in its slot, and comes with its versions
pub coming_here : (c : Option Copy) → is_in_state is_coming c ≡ true → in_state Here c ≡ Some (record { state = Here; versions = versions_of c })
coming_here None is = absurd (let e : false ≡ true = is in cc)
coming_here (Some c) is = refl

pub coming_slot : (c : Option Copy) → is_in_state is_coming c ≡ true → slot_versions c ≡ Some (versions_of c)
coming_slot None is = absurd (let e : false ≡ true = is in cc)
coming_slot (Some c) is = ap (λ (t : Bool). cond t (Some c.versions) None) (by c.state is)
  where
    by : (s : CopyState) → is_coming s ≡ true → is_in_slot s ≡ true
    by Here is = is
    by Leaving is = is
    by Out is = refl
    by Coming is = refl
    by (Lent t) is = refl

-- one that isn't seen in memory isn't Here
pub away_of : (c : Option Copy) → here_versions c ≡ None → is_in_state is_here c ≡ false
away_of None e = refl
away_of (Some c) e = ⊎_elim
    (λ (is : is_here c.state ≡ true). let h : Some c.versions ≡ None = sym (ap (λ (t : Bool). cond t (Some c.versions) None) is) ∙ e in absurd (cc))
    (λ (no : is_here c.state ≡ false). no)
    (cases_Bool (is_here c.state))

-- nobody wants spare of a copy that isn't Here
pub none_wanted : (l : Ledger) (space block spare : ℕ) → IsWellFormed l.plan.now → here_versions ((state_now l).copies space block) ≡ None → wanted l.plan.now (state_now l) space block ≤ spare
none_wanted l space block spare well away =
    subst (λ (n : ℕ). n * (2 * size l.plan.now block) ≤ spare) (sym (unused l.plan.now (state_now l) space block (sound_now l well) (away_of ((state_now l).copies space block) away))) (omega arith)

-- a changed place by other spellings
same_place : (copies : ℕ → ℕ → Option Copy) (space block s b : ℕ) (vs new : List ℕ) → space ≡ s → block ≡ b → vs ≡ new
    → at_copy copies s b (Some (record { state = Here; versions = new })) ≡ at_copy copies space block (Some (record { state = Here; versions = vs }))
same_place copies space block s b vs new e f k =
    ap (λ (n : ℕ). at_copy copies n b (Some (record { state = Here; versions = new }))) (sym e)
    ∙ ap (λ (n : ℕ). at_copy copies space n (Some (record { state = Here; versions = new }))) (sym f)
    ∙ ap (λ (v : List ℕ). at_copy copies space block (Some (record { state = Here; versions = v }))) (sym k)

module _ {D S : Type 0} {g : Ghosts D S} {h : SlotGhosts S} where
  -- a copy that was put in the place of what was there
  pub adds_at : (st new : State) (pool : Pool D S g h) (space block : ℕ) (versions : List ℕ) → new.copies ≡ at_copy st.copies space block (Some (record { state = Here; versions = versions }))
      → AddsCopy st new pool space block versions
  adds_at st new pool space block versions is = record {
    here = seen_here here_versions st new space block (Some (record { state = Here; versions = versions })) is;
    others = seen_elsewhere here_versions st new space block (Some (record { state = Here; versions = versions })) is;
    slots = λ s b _ apart _. seen_elsewhere slot_versions st new space block (Some (record { state = Here; versions = versions })) is s b apart;
  }

  pub put_adds : (plan : Plan) (st : State) (pool : Pool D S g h) (ev : Event) (block space b : ℕ) (versions : List ℕ) → ev ≡ Put block → space ≡ st.homes block → b ≡ block
      → versions ≡ replicate (size plan block) 0 → AddsCopy st (after plan st ev) pool space b versions
  put_adds plan st pool ev block space b versions event at is fill =
      adds_at st (after plan st ev) pool space b versions (ap (λ (e : Event). (after plan st e).copies) event ∙ same_place st.copies space b (st.homes block) block versions (replicate (size plan block) 0) at is fill)

  pub make_adds : (plan : Plan) (st : State) (pool : Pool D S g h) (ev : Event) (task block space b : ℕ) (versions : List ℕ) → ev ≡ Make task block → space ≡ place plan task → b ≡ block
      → versions ≡ replicate (size plan block) blank → AddsCopy st (after plan st ev) pool space b versions
  make_adds plan st pool ev task block space b versions event at is fill =
      adds_at st (after plan st ev) pool space b versions (ap (λ (e : Event). (after plan st e).copies) event ∙ same_place st.copies space b (place plan task) block versions (replicate (size plan block) blank) at is fill)

  pub come_adds : (plan : Plan) (st : State) (pool : Pool D S g h) (ev : Event) (space block b : ℕ) (versions : List ℕ) → ev ≡ Come space block → is_in_state is_coming (st.copies space block) ≡ true → b ≡ block
      → versions ≡ versions_of (st.copies space block) → AddsCopy st (after plan st ev) pool space b versions
  come_adds plan st pool ev space block b versions event coming is fill =
      adds_at st (after plan st ev) pool space b versions
      (ap (λ (e : Event). (after plan st e).copies) event ∙ ap (at_copy st.copies space block) (coming_here (st.copies space block) coming)
      ∙ same_place st.copies space b space block versions (versions_of (st.copies space block)) refl is fill)

  -- where there is no copy there is no slot
  pub absent_slot : (l : Ledger) (pool : Pool D S g h) (space block : ℕ) → IsPlace l.plan.now space block → IsHolding l pool → (state_now l).copies space block ≡ None → out_at pool space block ≡ None
  absent_slot l pool space block place facts absent =
      none_of (out_at pool space block) (no_slot l pool space block place facts (ap slot_versions absent))

  pub absent_at : (l : Ledger) (pool : Pool D S g h) (space block s b : ℕ) → space ≡ s → block ≡ b → IsPlace l.plan.now space block → IsHolding l pool → (state_now l).copies s b ≡ None
      → out_at pool space block ≡ None
  absent_at l pool space block s b e f place facts absent =
      absent_slot l pool space block place facts (ap (λ (n : ℕ). (state_now l).copies n block) e ∙ ap ((state_now l).copies s) f ∙ absent)

  -- the slot of a copy that is coming has its versions
  pub slot_has : (l : Ledger) (pool : Pool D S g h) (space block : ℕ) (out : Spilled S h) → IsHolding l pool → IsPlace l.plan.now space block → is_in_state is_coming ((state_now l).copies space block) ≡ true
      → out_at pool space block ≡ Some out → out.versions.list ≡ versions_of ((state_now l).copies space block)
  unfolding HasSlots
  slot_has l pool space block out facts place coming there =
      let c = (state_now l).copies space block in
      let e : Some out.versions.list ≡ Some (versions_of c) = sym (facts.slots space block out place there) ∙ coming_slot c coming in
      cc
