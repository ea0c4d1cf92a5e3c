-- A home copy that goes to another space: what that leaves of a holding's facts.
use Rattle.std.proofs.Common.{◌≡◌, ℕ, ◌≤◌, Bool, true, false, cond, inl, inr, List, [], ◌∷◌, Bor, Option, Some, None, refl, sym, ap, ◌∙◌, subst}
use Rattle.std.specs.Option.{option_map}
use Rattle.dd_blocks.specs.declared.plan.Plan.{Plan}
use Rattle.dd_blocks.specs.WellFormed.{IsWellFormed}
use Rattle.dd_holding.specs.Added.{AddsCopy}
use Rattle.dd_holding.specs.Facts.{HasHere, HasSlots, IsHolding, stamps}
use Rattle.dd_holding.specs.Quiet.{is_steady}
use Rattle.dd_holding.specs.Users.{HasSpare, wanted}
use Rattle.dd_holding.specs.Views.{here_versions, is_in_slot, slot_versions}
use Rattle.dd_holding.proofs.AddsLemmas.{none_of, none_wanted}
use Rattle.dd_holding.proofs.ChangedLemmas.{none_some, one_or_other}
use Rattle.dd_holding.proofs.FactsLemmas.{holding_of}
use Rattle.dd_holding.proofs.HereLemmas.{in_memory, place_there, sound_now}
use Rattle.dd_holding.proofs.PickedLemmas.{away_picked, is_away}
use Rattle.dd_holding.proofs.QuietLemmas.{telling_before}
use Rattle.dd_holding.proofs.SlotsLemmas.{here_slot, no_slot}
use Rattle.dd_holding.proofs.SpareLemmas.{steady}
use Rattle.dd_ledger.specs.declared.ledger.Ledger.{Ledger}
use Rattle.dd_ledger.specs.Ledgers.{GrowsBy, state_now}
use Rattle.dd_ledger.proofs.GrowsLemmas.{state_next}
use Rattle.dd_machine.specs.declared.copy_state.CopyState.{CopyState}
use Rattle.dd_machine.specs.declared.copy_state.CopyState.TheVariants.{Here, Leaving, Out, Coming, Lent}
use Rattle.dd_machine.specs.declared.entry.Entry.{Entry}
use Rattle.dd_machine.specs.declared.event.Event.{Event}
use Rattle.dd_machine.specs.declared.event.Event.TheVariants.{Shift}
use Rattle.dd_machine.specs.Effects.{after, after_shift, in_state}
use Rattle.dd_machine.specs.Legal.{Legal, May, MayShift}
use Rattle.dd_machine.specs.Runs.{has_pick}
use Rattle.dd_machine.specs.States.{Copy, State, at_copy}
use Rattle.dd_machine.specs.Tests.{Has, is_any, is_here, is_idle, is_in_state, is_out, versions_of}
use Rattle.dd_machine.proofs.ChangesLemmas.{at_copy_other, at_copy_same}
use Rattle.dd_pool.specs.declared.pool.Pool.{Pool}
use Rattle.dd_pool.specs.declared.spilled.Spilled.{Spilled}
use Rattle.dd_pool.specs.Copies.{Shifts}
use Rattle.dd_pool.specs.Places.{IsPlace}
use Rattle.dd_pool.specs.Pools.{KeepsRest, copy_at, out_at}
use Rattle.dd_store.specs.declared.store.Slot.{Ghosts as SlotGhosts}
use Rattle.dd_store.specs.declared.store.Store.{Ghosts}

-- the entry gives a home copy to a space
pub record IsShift (l : Ledger) (entry : Entry) (block space home : ℕ) : Type 0 where
  pub well : IsWellFormed l.plan.now
  pub legal : Legal l.plan.now (state_now l) entry
  pub event : entry.event ≡ Shift block space
  pub home_is : home ≡ (state_now l).homes block

pub shift_may : (l : Ledger) (entry : Entry) (block space home : ℕ) → IsShift l entry block space home → MayShift l.plan.now (state_now l) block space
shift_may l entry block space home shift = subst (May l.plan.now (state_now l)) shift.event shift.legal.1

pub shift_idle : (l : Ledger) (entry : Entry) (block space home : ℕ) → IsShift l entry block space home → Has (state_now l) home block is_idle
shift_idle l entry block space home shift = subst (λ (s : ℕ). Has (state_now l) s block is_idle) (sym shift.home_is) (shift_may l entry block space home shift).idle

pub home_place : (l : Ledger) (entry : Entry) (block space home : ℕ) → IsShift l entry block space home → IsPlace l.plan.now home block
home_place l entry block space home shift = place_there l is_idle home block (shift_idle l entry block space home shift)

pub new_place : (l : Ledger) (entry : Entry) (block space home : ℕ) → IsShift l entry block space home → IsPlace l.plan.now space block
new_place l entry block space home shift =
    let may = shift_may l entry block space home shift in
    record { a_space = may.space_is; a_block = may.block_is }

pub shift_apart : (l : Ledger) (entry : Entry) (block space home : ℕ) → IsShift l entry block space home → space ≡ home → ⊥
shift_apart l entry block space home shift same = (shift_may l entry block space home shift).elsewhere (sym (same ∙ shift.home_is))

-- no copy, where there is none in any state
none_any : (c : Option Copy) → (is_in_state is_any c ≡ true → ⊥) → c ≡ None
none_any None never = refl
none_any (Some c) never = absurd (never refl)

-- the space has no copy of the block
pub none_there : (l : Ledger) (entry : Entry) (block space home : ℕ) → IsShift l entry block space home → (state_now l).copies space block ≡ None
none_there l entry block space home shift =
    let may = shift_may l entry block space home shift in
    none_any ((state_now l).copies space block) (λ is. may.elsewhere ((sound_now l shift.well).lives.at_home may.outside space block is))

-- a copy that is idle and not Out is Here
idle_here : (c : Option Copy) → is_in_state is_idle c ≡ true → (is_in_state is_out c ≡ true → ⊥) → is_in_state is_here c ≡ true
idle_here None is not_out = absurd (let e : false ≡ true = is in cc)
idle_here (Some c) is not_out = by c.state is not_out
  where
    by : (s : CopyState) → is_idle s ≡ true → (is_out s ≡ true → ⊥) → is_here s ≡ true
    by Here is not_out = refl
    by Leaving is not_out = absurd (let e : false ≡ true = is in cc)
    by Out is not_out = absurd (not_out refl)
    by Coming is not_out = absurd (let e : false ≡ true = is in cc)
    by (Lent t) is not_out = absurd (let e : false ≡ true = is in cc)

pub shift_from_memory : (l : Ledger) (entry : Entry) (block space home : ℕ) → IsShift l entry block space home → (Has (state_now l) home block is_out → ⊥) → Has (state_now l) home block is_here
shift_from_memory l entry block space home shift not_out = idle_here ((state_now l).copies home block) (shift_idle l entry block space home shift) not_out

-- what is seen of copies in slots
pub slot_seen : (c : Option Copy) (vs : List ℕ) → slot_versions c ≡ Some vs → (is_in_state is_in_slot c ≡ true) × (versions_of c ≡ vs)
slot_seen None vs e = absurd (cc)
slot_seen (Some c) vs e = by (is_in_slot c.state) refl
  where
    by : (t : Bool) → is_in_slot c.state ≡ t → (is_in_slot c.state ≡ true) × (c.versions ≡ vs)
    by true is = (is, let h : Some c.versions ≡ Some vs = sym (ap (λ (t : Bool). cond t (Some c.versions) None) is) ∙ e in cc)
    by false is = absurd (let h : None ≡ Some vs = sym (ap (λ (t : Bool). cond t (Some c.versions) None) is) ∙ e in cc)

pub slot_here : (c : Option Copy) → is_in_state is_in_slot c ≡ true → here_versions c ≡ None
slot_here None is = refl
slot_here (Some c) is = ap (λ (t : Bool). cond t (Some c.versions) None) (by c.state is)
  where
    by : (s : CopyState) → is_in_slot s ≡ true → is_here s ≡ false
    by Here is = absurd (let e : false ≡ true = is in cc)
    by Leaving is = refl
    by Out is = refl
    by Coming is = refl
    by (Lent t) is = refl

slot_away : (s : CopyState) → is_in_slot s ≡ true → is_away s ≡ true
slot_away Here is = is
slot_away Leaving is = refl
slot_away Out is = refl
slot_away Coming is = refl
slot_away (Lent t) is = refl

some_here : (c : Option Copy) (test : CopyState → Bool) → is_in_state test c ≡ true → here_versions (in_state Here c) ≡ Some (versions_of c)
some_here None test is = absurd (let e : false ≡ true = is in cc)
some_here (Some c) test is = refl

-- two places and all others
by_two : (P : ℕ → ℕ → Type 0) (space other block : ℕ) → P space block → P other block → ((s b : ℕ) → (s ≡ space → b ≡ block → ⊥) → (s ≡ other → b ≡ block → ⊥) → P s b) → (s b : ℕ) → P s b
by_two P space other block one two rest s b = elim (one_or_other s b space block) [
  | inl e ↦ subst (λ (n : ℕ). P n b) (sym e.0) (subst (P space) (sym e.1) one)
  | inr e ↦ elim (one_or_other s b other block) [
    | inl f ↦ subst (λ (n : ℕ). P n b) (sym f.0) (subst (P other) (sym f.1) two)
    | inr f ↦ rest s b e f
  ]
]

-- the copies after a Shift
module _ (plan : Plan) (st : State) (block space home : ℕ) (at : home ≡ st.homes block) (apart : space ≡ home → ⊥) where
  abbrev new : State
  new = after_shift plan st block space

  abbrev left : ℕ → ℕ → Option Copy
  left = at_copy st.copies (st.homes block) block None

  pub shifted_here : new.copies space block ≡ in_state Here (st.copies home block)
  shifted_here = at_copy_same left space block (in_state Here (st.copies (st.homes block) block)) ∙ ap (λ (s : ℕ). in_state Here (st.copies s block)) (sym at)

  pub shifted_gone : new.copies home block ≡ None
  shifted_gone =
      at_copy_other left space block (in_state Here (st.copies (st.homes block) block)) home block (λ e _. apart (sym e))
      ∙ ap (λ (s : ℕ). left s block) at ∙ at_copy_same st.copies (st.homes block) block None

  pub shifted_others : (s b : ℕ) → (s ≡ space → b ≡ block → ⊥) → (s ≡ home → b ≡ block → ⊥) → new.copies s b ≡ st.copies s b
  shifted_others s b off gone =
      at_copy_other left space block (in_state Here (st.copies (st.homes block) block)) s b off ∙ at_copy_other st.copies (st.homes block) block None s b (λ e f. gone (e ∙ sym at) f)

module _ {D S : Type 0} {g : Ghosts D S} {h : SlotGhosts S} where
  -- neither a copy nor a slot is in the space
  pub no_copy_there : (l : Ledger) (pool : Pool D S g h) (entry : Entry) (block space home : ℕ) → IsShift l entry block space home → IsHolding l pool → copy_at pool space block ≡ None
  unfolding HasHere
  no_copy_there l pool entry block space home shift facts =
      none_of (copy_at pool space block) (λ copy there.
      none_some (option_map stamps (copy_at pool space block)) copy.versions.list
      (facts.here space block (new_place l entry block space home shift) ∙ ap here_versions (none_there l entry block space home shift)) (ap (option_map stamps) there))

  pub no_slot_there : (l : Ledger) (pool : Pool D S g h) (entry : Entry) (block space home : ℕ) → IsShift l entry block space home → IsHolding l pool → out_at pool space block ≡ None
  no_slot_there l pool entry block space home shift facts =
      none_of (out_at pool space block) (no_slot l pool space block (new_place l entry block space home shift) facts (ap slot_versions (none_there l entry block space home shift)))

  -- a copy that was in memory is in the other space
  pub shifted : (l u : Ledger) (pool now : Pool D S g h) (entry : Entry) (block space home : ℕ) → IsShift l entry block space home → Has (state_now l) home block is_here → GrowsBy l u (entry ∷ [])
      → Shifts pool.copies now.copies home block space → KeepsRest pool now → IsHolding l pool → HasSpare l.plan.now (state_now l) pool → IsHolding u now × HasSpare u.plan.now (state_now u) now
  unfolding HasHere HasSlots HasSpare
  shifted l u pool now entry block space home shift here grows shifts rest facts spare =
      let plan = l.plan.now in
      let st = state_now l in
      let after_it = after_shift plan st block space in
      let is : state_now u ≡ after_it = state_next l u entry grows ∙ ap (after plan st) shift.event in
      let planned : pool.plan.now ≡ plan = ap (λ (p : Bor Plan). p.now) facts.planned in
      let now_planned : now.plan.now ≡ plan = ap (λ (p : Bor Plan). p.now) rest.plan ∙ planned in
      let apart = shift_apart l entry block space home shift in
      let at = shift.home_is in
      let home_is = home_place l entry block space home shift in
      let there = in_memory l pool home block facts home_is here in
      let moved : copy_at now space block ≡ Some there.0 = shifts.here ∙ there.1 in
      let gone : copy_at now home block ≡ None = shifts.gone in
      let others = λ (s b : ℕ) (is : IsPlace plan s b) (off : s ≡ space → b ≡ block → ⊥) (not_home : s ≡ home → b ≡ block → ⊥).
      shifts.others s b (subst (λ (p : Plan). IsPlace p s b) (sym (ap (λ (p : Bor Plan). p.now) pool.planned ∙ planned)) is) not_home off in
      let vacant = λ (out : Spilled S h) (held : out_at now home block ≡ Some out).
      no_slot l pool home block home_is facts (here_slot (st.copies home block) here) out (sym (rest.outs home block) ∙ held) in
      let empty : out_at now space block ≡ None = rest.outs space block ∙ no_slot_there l pool entry block space home shift facts in
      let place = λ (s b : ℕ) (is : IsPlace now.plan.now s b). subst (λ (p : Plan). IsPlace p s b) now_planned is in
      let back = λ (s b : ℕ) (is : IsPlace plan s b). subst (λ (p : Plan). IsPlace p s b) (sym planned) is in (
        holding_of l u now after_it grows.plan is (rest.plan ∙ facts.planned)
            (by_two (λ s b. IsPlace plan s b → option_map stamps (copy_at now s b) ≡ here_versions (after_it.copies s b)) space home block
            (λ _. ap (option_map stamps) moved ∙ ap Some there.2 ∙ sym (some_here (st.copies home block) is_here here) ∙ sym (ap here_versions (shifted_here plan st block space home at apart)))
            (λ _. ap (option_map stamps) gone ∙ sym (ap here_versions (shifted_gone plan st block space home at apart)))
            (λ s b off not_home is. ap (option_map stamps) (others s b is off not_home) ∙ facts.here s b is ∙ sym (ap here_versions (shifted_others plan st block space home at apart s b off not_home))))
            (λ s b out is held. by_two (λ s b. IsPlace plan s b → out_at now s b ≡ Some out → slot_versions (after_it.copies s b) ≡ Some out.versions.list) space home block
            (λ _ held. none_some (out_at now space block) out empty held)
            (λ _ held. absurd (vacant out held))
            (λ s b off not_home is held. ap slot_versions (shifted_others plan st block space home at apart s b off not_home) ∙ facts.slots s b out is (sym (rest.outs s b) ∙ held)) s b is held)
            (λ tells.
            let told = facts.told (telling_before (SlotGhosts.tells h) l u entry grows tells) in
            record {
              copies = λ s b copy is held. by_two (λ s b. IsPlace plan s b → copy_at now s b ≡ Some copy → copy.told.mark ≡ true) space home block
                  (λ _ held. told.copies home block copy (back home block home_is) (sym shifts.here ∙ held))
                  (λ _ held. none_some (copy_at now home block) copy gone held)
                  (λ s b off not_home is held. told.copies s b copy (back s b is) (sym (others s b is off not_home) ∙ held)) s b (place s b is) held;
              slots = λ s b out is held. told.slots s b out (back s b (place s b is)) (sym (rest.outs s b) ∙ held);
            }),
        steady l u now entry grows shift.legal.1 (ap is_steady shift.event)
            (λ s b copy is held. by_two (λ s b. IsPlace plan s b → copy_at now s b ≡ Some copy → wanted plan st s b ≤ copy.versions.spare) space home block
            (λ _ _. none_wanted l space block copy.versions.spare shift.well (ap here_versions (none_there l entry block space home shift)))
            (λ _ held. none_some (copy_at now home block) copy gone held)
            (λ s b off not_home is held. spare s b copy is (sym (others s b is off not_home) ∙ held)) s b is held),
      )

  -- a copy that was in a slot is in memory
  pub shift_adds : (l : Ledger) (pool mid : Pool D S g h) (entry : Entry) (block space home b : ℕ) (out : Spilled S h) → IsShift l entry block space home → IsHolding l pool → b ≡ block
      → out_at pool home block ≡ Some out → out_at mid home block ≡ None → AddsCopy (state_now l) (after l.plan.now (state_now l) entry.event) mid space b out.versions.list
  unfolding HasSlots
  shift_adds l pool mid entry block space home b out shift facts same there gone =
      let plan = l.plan.now in
      let st = state_now l in
      let c = st.copies home block in
      let seen = slot_seen c out.versions.list (facts.slots home block out (home_place l entry block space home shift) there) in
      let apart = shift_apart l entry block space home shift in
      let at = shift.home_is in
      let adds : AddsCopy st (after_shift plan st block space) mid space block out.versions.list = record {
        here = ap here_versions (shifted_here plan st block space home at apart) ∙ some_here c is_in_slot seen.0 ∙ ap Some seen.1;
        others = λ s b off. elim (one_or_other s b home block) [
          | inl e ↦
              let new_none : here_versions ((after_shift plan st block space).copies home block) ≡ here_versions (st.copies home block) =
              ap here_versions (shifted_gone plan st block space home at apart) ∙ sym (slot_here c seen.0) in
              subst (λ (n : ℕ). here_versions ((after_shift plan st block space).copies n b) ≡ here_versions (st.copies n b)) (sym e.0)
              (subst (λ (n : ℕ). here_versions ((after_shift plan st block space).copies home n) ≡ here_versions (st.copies home n)) (sym e.1) new_none)
          | inr e ↦ ap here_versions (shifted_others plan st block space home at apart s b off e)
        ];
        slots = λ s b held off is. elim (one_or_other s b home block) [
          | inl e ↦ none_some (out_at mid home block) held gone
              (subst (λ (n : ℕ). out_at mid home n ≡ Some held) e.1 (subst (λ (n : ℕ). out_at mid n b ≡ Some held) e.0 is))
          | inr e ↦ ap slot_versions (shifted_others plan st block space home at apart s b off e)
        ];
      } in
      subst (λ (n : ℕ). AddsCopy st (after plan st entry.event) mid space n out.versions.list) (sym same)
      (subst (λ (ev : Event). AddsCopy st (after plan st ev) mid space block out.versions.list) (sym shift.event) adds)

  pub slot_picked : (l : Ledger) (pool : Pool D S g h) (space block : ℕ) (out : Spilled S h) → IsHolding l pool → IsPlace l.plan.now space block → out_at pool space block ≡ Some out → has_pick l.journal.items ≡ true
  unfolding HasSlots
  slot_picked l pool space block out facts place there =
      away_picked l is_in_slot slot_away space block (slot_seen ((state_now l).copies space block) out.versions.list (facts.slots space block out place there)).0
