-- Elements that go from one copy to another: the versions that they have there.
use Rattle.std.proofs.Common.{◌≡◌, ◌⊎◌, ℕ, zero, suc, ◌<◌, Bool, true, false, ◌&&◌, ◌||◌, eqb, List, length, Option, Some, refl, ap, sym, ◌∙◌, subst, ⊎_elim, arith}
use Rattle.std.specs.Prelude.{not, slice_index}
use Rattle.std.specs.List.{range_with_len}
use Rattle.std.proofs.lemmas.Bool.{and_parts, cases_Bool, eq-eqb, eqb-true, ne_eqb, not-true}
use Rattle.std.proofs.lemmas.List.{ext_get_or}
use Rattle.dd_blocks.specs.declared.plan.Plan.{Plan}
use Rattle.dd_blocks.specs.WellFormed.{IsWellFormed}
use Rattle.dd_core.specs.Finals.{is_final}
use Rattle.dd_holding.specs.Carried.{carries}
use Rattle.dd_holding.specs.Quiet.{is_steady}
use Rattle.dd_machine.specs.declared.copy_state.CopyState.TheVariants.{Here}
use Rattle.dd_machine.specs.declared.task_state.TaskState.TheVariants.{Done, Held}
use Rattle.dd_machine.specs.Effects.{after, after_copy, versions_where}
use Rattle.dd_machine.specs.Legal.{AllDone, May, MayCopy, MayFetch}
use Rattle.dd_machine.specs.Made.{is_live}
use Rattle.dd_machine.specs.Needed.{is_current_at, is_needed, needed, own_space, source, version}
use Rattle.dd_machine.specs.Owed.{made}
use Rattle.dd_machine.specs.Sound.{IsSound}
use Rattle.dd_machine.specs.SoundVersions.{HasCurrent}
use Rattle.dd_machine.specs.States.{Copy, State}
use Rattle.dd_machine.specs.Tests.{Has, is_active, is_any, is_here, is_in_state, versions_of}
use Rattle.dd_machine.specs.Words.{IsOf, element, reads, size}
use Rattle.dd_machine.proofs.RangesLemmas.{kept_one}
use Rattle.dd_machine.proofs.TestsLemmas.{fetch_open, passes_any}
use Rattle.dd_spans.proofs.MembersLemmas.{contains_filter, contains_from_filter}
use Rattle.dd_spans.proofs.RunLemmas.{range_contains}
use Rattle.dd_stamps.specs.Taken.{HasTaken}
use Rattle.laws_of_lives.proofs.ElementsLemmas.{touches_used}
use Rattle.laws_of_versions.proofs.ConflictLemmas.{use_of_read}
use Rattle.laws_of_versions.proofs.WhereLemmas.{copy_where_hit, copy_where_tells, length_copy_where}

-- the event that carries elements is a Copy or a Back
pub carries_after : (plan : Plan) (st : State) (task block from count : ℕ) → after plan st (carries task block from count) ≡ after_copy plan st task block from count
carries_after plan st zero block from count = refl
carries_after plan st (suc t) block from count = refl

pub carries_may : (plan : Plan) (st : State) (task block from count : ℕ) → May plan st (carries task block from count) → MayCopy plan st task block from count
carries_may plan st zero block from count may = may
carries_may plan st (suc t) block from count may = may.1

pub carries_step : (task block from count : ℕ) → is_final (carries task block from count) ≡ false
carries_step zero block from count = refl
carries_step (suc t) block from count = refl

pub carries_steady : (task block from count : ℕ) → is_steady (carries task block from count) ≡ true
carries_steady zero block from count = refl
carries_steady (suc t) block from count = refl

suc_read : (t : ℕ) (x : Bool) → (eqb (suc t) 0 || x) ≡ true → x ≡ true
suc_read t x h = ap (λ (b : Bool). b || x) (sym (ne_eqb (suc t) 0 (λ e. omega (arith, e)))) ∙ h

module _ (plan : Plan) (st : State) (task block from count : ℕ) (well : IsWellFormed plan) (sound : IsSound plan st) (may : MayCopy plan st task block from count) where
  abbrev own : ℕ
  own = own_space plan st task block

  here : Has st own block is_any
  here = passes_any is_here (st.copies own block) may.here

  module _ (i : ℕ) (lt : i < size plan block) (on : is_needed plan st task block from i ≡ true) where
    asks : ((eqb task 0 || reads plan task (element plan block i)) ≡ true) × ((not (is_current_at plan st own block i) && eqb (source plan st block i) from) ≡ true)
    asks = and_parts (eqb task 0 || reads plan task (element plan block i)) (not (is_current_at plan st own block i) && eqb (source plan st block i) from) on

    stale : version st own block i ≡ st.current (element plan block i) → ⊥
    stale is =
        let old = not-true (is_current_at plan st own block i) (and_parts (not (is_current_at plan st own block i)) (eqb (source plan st block i) from) asks.1).0 in
        let h : true ≡ false = sym (eq-eqb (version st own block i) (st.current (element plan block i)) is) ∙ old in
        absurd (cc)

    home_there : Has st (st.homes block) block is_any
    home_there = sym (sound.lives.home_live block) ∙ live task refl
      where
        live : (t : ℕ) → task ≡ t → is_live (made plan st.progress) block ≡ true
        live zero is =
            let home : own ≡ st.homes block = ap (λ (x : ℕ). own_space plan st x block) is in
            sound.lives.home_live block ∙ ap (λ (s : ℕ). is_in_state is_any (st.copies s block)) (sym home) ∙ here
        live (suc t) is =
            let held : st.tasks (suc t) ≡ Held = subst (λ (x : ℕ). MayFetch st x block) is may.asked in
            let o = sound.limits.active_open (suc t) (ap is_active held) in
            let read : reads plan (suc t) (element plan block i) ≡ true = suc_read t (reads plan (suc t) (element plan block i)) (ap (λ (x : ℕ). eqb x 0 || reads plan x (element plan block i)) (sym is) ∙ asks.0) in
            sound.lives.touched_live o.0 (suc t) block o.1 o.2 (touches_used plan well (suc t) block i o.2.0 lt (use_of_read plan (suc t) (element plan block i) read))

    -- not every task is done, or the home has no current version
    at_work : (r : ℕ) → st.region ≡ Some r → AllDone plan st r × HasCurrent plan st (st.homes block) block i → ⊥
    at_work r open_is all = by task refl
      where
        by : (t : ℕ) → task ≡ t → ⊥
        by zero is = stale (ap (λ (x : ℕ). version st (own_space plan st x block) block i) is ∙ all.1.1)
        by (suc t) is =
            let held : st.tasks (suc t) ≡ Held = subst (λ (x : ℕ). MayFetch st x block) is may.asked in
            let o = sound.limits.active_open (suc t) (ap is_active held) in
            let same : Some o.0 ≡ Some r = sym o.1 ∙ open_is in
            let done : st.tasks (suc t) ≡ Done = all.0 (suc t) (subst (λ (x : ℕ). IsOf plan x (suc t)) (let k : o.0 ≡ r = cc in k) o.2) in
            let clash : Held ≡ Done = sym held ∙ done in
            absurd (cc)

    -- the other copy has the current version of what is needed from it
    pub gives : version st from block i ≡ st.current (element plan block i)
    gives =
        let from_is : source plan st block i ≡ from = eqb-true (source plan st block i) from (and_parts (not (is_current_at plan st own block i)) (eqb (source plan st block i) from) asks.1).1 in
        let o = fetch_open plan st task block sound may.asked in
        ⊎_elim
        (λ (h : HasCurrent plan st (source plan st block i) block i). subst (λ (s : ℕ). version st s block i ≡ st.current (element plan block i)) from_is h.1)
        (λ (h : AllDone plan st o.0 × HasCurrent plan st (st.homes block) block i). absurd (at_work o.0 o.1 h))
        (sound.versions.source_holds o.0 block i o.1 home_there lt)

    not_own : from ≡ own → ⊥
    not_own same = stale (subst (λ (s : ℕ). version st s block i ≡ st.current (element plan block i)) same gives)

  -- so it is another
  pub apart : from ≡ own → ⊥
  apart =
      let exact = may.exact in
      let some = may.some_needed in
      let one = kept_one (is_needed plan st task block from) 0 (size plan block) (omega (arith, exact, some)) in
      let high = one.2 in
      not_own one.0 (omega (arith, high)) one.3

  -- the versions that the own copy has then
  pub joined : (old other new : List ℕ) → old ≡ versions_of (st.copies own block) → other ≡ versions_of (st.copies from block) → HasTaken 0 (needed plan st task block from) old other new
      → new ≡ versions_where (is_needed plan st task block from) (λ i. st.current (element plan block i)) 0 old
  joined old other new is_old is_other taken =
      ext_get_or 0 new (versions_where changed current 0 old) (taken.count ∙ sym (length_copy_where changed current copy)) (λ i lt. by i lt (cases_Bool (changed i)))
    where
      changed : ℕ → Bool
      changed = is_needed plan st task block from

      current : ℕ → ℕ
      current i = st.current (element plan block i)

      copy : Option Copy
      copy = Some (record { state = Here; versions = old })

      long : length old ≡ size plan block
      long = ap length is_old ∙ sound.versions.sized own block here

      by : (i : ℕ) → i < length new → (changed i ≡ true) ⊎ (changed i ≡ false) → slice_index new i ≡ slice_index (versions_where changed current 0 old) i
      by i lt known =
          let count = taken.count in
          let small : i < size plan block = omega (arith, lt, count, long) in
          ⊎_elim
          (λ (on : changed i ≡ true).
          taken.taken i (contains_filter changed (range_with_len 0 (size plan block)) i (range_contains 0 (size plan block) i (omega arith) (omega (arith, small))) on)
          ∙ ap (λ (vs : List ℕ). slice_index vs i) is_other ∙ gives i small on
          ∙ sym (copy_where_hit changed current copy i on (omega (arith, lt, count))))
          (λ (off : changed i ≡ false).
          taken.kept i (λ has. let on = (contains_from_filter changed (range_with_len 0 (size plan block)) i has).1 in let h : true ≡ false = sym on ∙ off in absurd (cc))
          ∙ ⊎_elim
          (λ (same : slice_index (versions_where changed current 0 old) i ≡ slice_index old i). sym same)
          (λ (hit : (changed i ≡ true) × (slice_index (versions_where changed current 0 old) i ≡ current i)). let h : true ≡ false = sym hit.0 ∙ off in absurd (cc))
          (copy_where_tells changed current copy i))
          known
