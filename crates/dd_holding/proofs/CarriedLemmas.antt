-- Elements that go from one copy to another: what that leaves of a holding's facts.
use Rattle.std.proofs.Common.{◌≡◌, ℕ, ◌+◌, ◌*◌, ◌≤◌, Bool, true, false, cond, List, [], ◌∷◌, length, Bor, Option, Some, None, refl, sym, ap, ◌∙◌, subst, arith}
use Rattle.std.specs.Option.{option_map}
use Rattle.std.proofs.lemmas.Bool.{and_from}
use Rattle.dd_blocks.specs.declared.plan.Plan.{Plan}
use Rattle.dd_blocks.specs.WellFormed.{IsWellFormed}
use Rattle.dd_holding.specs.Carried.{carries}
use Rattle.dd_holding.specs.Facts.{HasHere, IsHolding, IsTelling, stamps}
use Rattle.dd_holding.specs.Quiet.{is_steady}
use Rattle.dd_holding.specs.Users.{HasSpare, wanted}
use Rattle.dd_holding.specs.Views.{here_versions, is_in_slot, slot_versions}
use Rattle.dd_holding.proofs.ChangedLemmas.{here_changed, others_of, slots_changed, told_changed}
use Rattle.dd_holding.proofs.FactsLemmas.{holding_of}
use Rattle.dd_holding.proofs.HereLemmas.{seen_is, sound_now}
use Rattle.dd_holding.proofs.JoinedLemmas.{carries_after, carries_may, carries_steady, joined}
use Rattle.dd_holding.proofs.QuietLemmas.{telling_before}
use Rattle.dd_holding.proofs.SlotsLemmas.{here_slot, no_slot}
use Rattle.dd_holding.proofs.SpareLemmas.{spare_put, steady}
use Rattle.dd_ledger.specs.declared.ledger.Ledger.{Ledger}
use Rattle.dd_ledger.specs.Ledgers.{GrowsBy, state_now}
use Rattle.dd_ledger.proofs.GrowsLemmas.{state_next}
use Rattle.dd_machine.specs.declared.copy_state.CopyState.{CopyState}
use Rattle.dd_machine.specs.declared.copy_state.CopyState.TheVariants.{Here, Leaving, Out, Coming, Lent}
use Rattle.dd_machine.specs.declared.entry.Entry.{Entry}
use Rattle.dd_machine.specs.Effects.{after, after_copy, copy_where, given_back, not_lent, versions_where}
use Rattle.dd_machine.specs.Legal.{May}
use Rattle.dd_machine.specs.Needed.{is_needed, needed, own_space}
use Rattle.dd_machine.specs.States.{Copy, State, at_copy}
use Rattle.dd_machine.specs.Tests.{Has, is_here, is_in_state, versions_of}
use Rattle.dd_machine.specs.Words.{element}
use Rattle.dd_machine.proofs.ChangesLemmas.{at_copy_other, at_copy_same}
use Rattle.dd_machine.proofs.TestsLemmas.{same_at}
use Rattle.dd_pool.specs.declared.pool.Pool.{Pool}
use Rattle.dd_pool.specs.declared.spilled.Spilled.{Spilled}
use Rattle.dd_pool.specs.Places.{IsPlace}
use Rattle.dd_pool.specs.Pools.{HasCopy, copy_at, out_at}
use Rattle.dd_stamps.specs.Copies.{TakesFrom}
use Rattle.dd_stamps.specs.declared.stamped.Stamped.{Stamped}
use Rattle.dd_store.specs.declared.store.Slot.{Ghosts as SlotGhosts}
use Rattle.dd_store.specs.declared.store.Store.{Ghosts}

-- a copy that was lent is in its slot all the while
given_here : (c : Option Copy) → here_versions (given_back c) ≡ here_versions c
given_here None = refl
given_here (Some c) = ap (λ (t : Bool). cond t (Some c.versions) None) (by c.state)
  where
    by : (s : CopyState) → is_here (not_lent s) ≡ is_here s
    by Here = refl
    by Leaving = refl
    by Out = refl
    by Coming = refl
    by (Lent t) = refl

given_slot : (c : Option Copy) → slot_versions (given_back c) ≡ slot_versions c
given_slot None = refl
given_slot (Some c) = ap (λ (t : Bool). cond t (Some c.versions) None) (by c.state)
  where
    by : (s : CopyState) → is_in_slot (not_lent s) ≡ is_in_slot s
    by Here = refl
    by Leaving = refl
    by Out = refl
    by Coming = refl
    by (Lent t) = refl

pub where_here : (changed : ℕ → Bool) (new : ℕ → ℕ) (c : Option Copy) → is_in_state is_here c ≡ true → here_versions (copy_where changed new c) ≡ Some (versions_where changed new 0 (versions_of c))
where_here changed new None is = absurd (let e : false ≡ true = is in cc)
where_here changed new (Some c) is = ap (λ (t : Bool). cond t (Some (versions_where changed new 0 c.versions)) None) is

module _ (plan : Plan) (st : State) (task block from count : ℕ) where
  abbrev own : ℕ
  own = own_space plan st task block

  abbrev new : State
  new = after_copy plan st task block from count

  abbrev copy : Option Copy
  copy = copy_where (is_needed plan st task block from) (λ i. st.current (element plan block i)) (st.copies own block)

  abbrev lender : ℕ → ℕ → Option Copy
  lender = at_copy st.copies from block (given_back (st.copies from block))

  -- every other copy is seen as it was
  pub carried_elsewhere : {A : Type 0} (view : Option Copy → A) → view (given_back (st.copies from block)) ≡ view (st.copies from block)
      → (s b : ℕ) → (s ≡ own → b ≡ block → ⊥) → view (new.copies s b) ≡ view (st.copies s b)
  carried_elsewhere view given s b off = ap view (at_copy_other lender own block copy s b off) ∙ same_at view st.copies from block (given_back (st.copies from block)) given s b

  pub carried_here : Has st own block is_here → here_versions (new.copies own block) ≡ Some (versions_where (is_needed plan st task block from) (λ i. st.current (element plan block i)) 0 (versions_of (st.copies own block)))
  carried_here here =
      ap here_versions (at_copy_same lender own block copy) ∙ where_here (is_needed plan st task block from) (λ i. st.current (element plan block i)) (st.copies own block) here

module _ {D S : Type 0} {g : Ghosts D S} {h : SlotGhosts S} where
  pub carried : (l u : Ledger) (pool now : Pool D S g h) (entry : Entry) (task block from count : ℕ) (copy other new : Stamped) → GrowsBy l u (entry ∷ []) → entry.event ≡ carries task block from count
      → IsWellFormed l.plan.now → May l.plan.now (state_now l) entry.event
      → IsPlace l.plan.now (own_space l.plan.now (state_now l) task block) block
      → copy_at pool (own_space l.plan.now (state_now l) task block) block ≡ Some copy → other.versions.list ≡ versions_of ((state_now l).copies from block)
      → TakesFrom copy other new (needed l.plan.now (state_now l) task block from) → HasCopy pool now (own_space l.plan.now (state_now l) task block) block (Some new)
      → (IsTelling (SlotGhosts.tells h) l → other.told.mark ≡ true) → IsHolding l pool → IsHolding u now
  unfolding HasHere
  carried l u pool now entry task block from count copy other new grows event well may place there is_other takes has other_told facts =
      let plan = l.plan.now in
      let st = state_now l in
      let own = own_space plan st task block in
      let copying = carries_may plan st task block from count (subst (May plan st) event may) in
      let after_it = after_copy plan st task block from count in
      let is : state_now u ≡ after_it = state_next l u entry grows ∙ ap (after plan st) event ∙ carries_after plan st task block from count in
      let planned : pool.plan.now ≡ plan = ap (λ (p : Bor Plan). p.now) facts.planned in
      let others = others_of plan pool now own block (Some new) planned has in
      let here : copy_at now own block ≡ Some new = has.copies.here in
      let seen : Some copy.versions.list ≡ Some (versions_of (st.copies own block)) =
      ap (option_map stamps) (sym there) ∙ facts.here own block place ∙ seen_is (st.copies own block) copying.here in
      let old : copy.versions.list ≡ versions_of (st.copies own block) = (cc) in
      let join = joined plan st task block from count well (sound_now l well) copying copy.versions.list other.versions.list new.versions.list old is_other takes.versions in
      let vacant = λ (out : Spilled S h) (at : out_at now own block ≡ Some out).
      no_slot l pool own block place facts (here_slot (st.copies own block) copying.here) out (sym (has.rest.outs own block) ∙ at) in
      holding_of l u now after_it grows.plan is (has.rest.plan ∙ facts.planned)
      (here_changed plan st after_it pool now own block (carried_elsewhere plan st task block from count here_versions (given_here (st.copies from block))) others
      (ap (option_map stamps) here ∙ ap Some join ∙ ap (λ (vs : List ℕ). Some (versions_where (is_needed plan st task block from) (λ i. st.current (element plan block i)) 0 vs)) old
      ∙ sym (carried_here plan st task block from count copying.here)) facts.here)
      (slots_changed plan st after_it pool now own block (λ s b _ off _. carried_elsewhere plan st task block from count slot_versions (given_slot (st.copies from block)) s b off) (λ s b _ _. has.rest.outs s b)
      (λ out at. absurd (vacant out at)) facts.slots)
      (λ tells.
      let before = telling_before (SlotGhosts.tells h) l u entry grows tells in
      let told = facts.told before in
      let mark : new.told.mark ≡ true = takes.told ∙ and_from copy.told.mark other.told.mark
      (told.copies own block copy (subst (λ (p : Plan). IsPlace p own block) (sym planned) place) there) (other_told before) in
      told_changed plan pool now own block planned (ap (λ (p : Bor Plan). p.now) has.rest.plan ∙ planned) others (λ s b _ _. has.rest.outs s b)
      (λ c at. let same : Some new ≡ Some c = sym here ∙ at in let one : new ≡ c = (cc) in sym (ap (λ (x : Stamped). x.told.mark) one) ∙ mark)
      (λ out at. absurd (vacant out at)) told)

  pub carried_spare : (l u : Ledger) (pool now : Pool D S g h) (entry : Entry) (task block from count : ℕ) (copy other new : Stamped) (places : List ℕ) → GrowsBy l u (entry ∷ []) → entry.event ≡ carries task block from count
      → May l.plan.now (state_now l) entry.event → pool.plan.now ≡ l.plan.now
      → TakesFrom copy other new places → HasCopy pool now (own_space l.plan.now (state_now l) task block) block (Some new)
      → wanted l.plan.now (state_now l) (own_space l.plan.now (state_now l) task block) block + 2 * length places ≤ copy.versions.spare
      → HasSpare l.plan.now (state_now l) pool → HasSpare u.plan.now (state_now u) now
  carried_spare l u pool now entry task block from count copy other new places grows event may planned takes has enough spare =
      let plan = l.plan.now in
      let st = state_now l in
      let own = own_space plan st task block in
      let used = takes.spare in
      steady l u now entry grows may (ap is_steady event ∙ carries_steady task block from count)
      (spare_put plan st pool now own block new (others_of plan pool now own block (Some new) planned has) has.copies.here (omega (arith, used, enough)) spare)
