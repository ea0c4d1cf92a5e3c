-- Copies are lent in an open region alone, and for the write-back only while the pin needs them.
use Rattle.std.proofs.Common.{◌≡◌, ℕ, zero, suc, ◌+◌, ◌<◌, ◌≤◌, Bool, true, false, cond, ◌&&◌, eqb, List, [], ◌∷◌, length, Option, Some, None, refl, ap, sym, ◌∙◌, subst, ⊎_elim, arith}
use Rattle.std.specs.Prelude.{not, slice_index}
use Rattle.std.proofs.lemmas.Bool.{and_parts, eqb-true, ne_eqb, not-true}
use Rattle.dd_blocks.specs.declared.plan.Plan.{Plan}
use Rattle.dd_machine.specs.declared.copy_state.CopyState.{CopyState}
use Rattle.dd_machine.specs.declared.copy_state.CopyState.TheVariants as state
use Rattle.dd_machine.specs.declared.event.Event.{Event}
use Rattle.dd_machine.specs.declared.event.Event.TheVariants.{Ask, Rest, Put, Shift, Free, Begin, Hold, Pick, Gone, Make, Call, Come, Lend, Copy, Claim, Finish, Back, Close}
use Rattle.dd_machine.specs.declared.task_state.TaskState.{TaskState}
use Rattle.dd_machine.specs.declared.task_state.TaskState.TheVariants.{Held, Running, Done}
use Rattle.dd_machine.specs.Effects.{after, fresh, given_back, in_state}
use Rattle.dd_machine.specs.Legal.{May, MayFetch}
use Rattle.dd_machine.specs.Sound.{IsSound}
use Rattle.dd_machine.specs.SoundLimits.{IsOpen}
use Rattle.dd_machine.specs.States as states
use Rattle.dd_machine.specs.States.{Progress, State, at_copy, at_one}
use Rattle.dd_machine.specs.Tests.{Has, is_here, is_idle, is_in_state, versions_of}
use Rattle.dd_machine.specs.Words.{place}
use Rattle.dd_machine.proofs.ChangesLemmas.{at_copy_same, at_copy_tells}
use Rattle.dd_machine.proofs.TestsLemmas.{fetch_open, pair_same, pin_of, rested_at, running_by, same_at, versions_in_state}
use Rattle.dd_machine.specs.Effects.{after_copy, copy_where, versions_where}
use Rattle.dd_machine.specs.Legal.{MayCopy}
use Rattle.dd_machine.specs.Needed.{is_current, is_current_at, is_needed, needed, source, source_in}
use Rattle.dd_machine.specs.SoundLimits.{IsLentToPin}
use Rattle.dd_machine.specs.Tests.{is_active, is_lent}
use Rattle.dd_machine.specs.Words.{element, size}
use Rattle.dd_machine.proofs.TestsLemmas.{none_in_state, not_two, passed_copied, passed_other, passes_any, state_finished, state_where}
use Rattle.laws_of_limits.proofs.PinsKept.{out_or_in, pin_done}
use Rattle.laws_of_limits.proofs.WithinKept.{lent_given}
use Rattle.dd_machine.proofs.RangesLemmas.{all_at, kept_one}

abbrev LendsOpen : State → Type 0
LendsOpen st = (s b : ℕ) → Has st s b (is_lent (λ t. true)) → IsOpen st

lent_idle : (s : CopyState) → is_lent (λ t. true) s ≡ true → is_idle s ≡ true → ⊥
lent_idle state.Here a b = cc
lent_idle state.Leaving a b = cc
lent_idle state.Out a b = cc
lent_idle state.Coming a b = cc
lent_idle (state.Lent t) a b = cc

opened : (st : State) (space block : ℕ) (copy : Option states.Copy) → LendsOpen st → is_in_state (is_lent (λ t. true)) copy ≡ false → (s b : ℕ) → is_in_state (is_lent (λ t. true)) (at_copy st.copies space block copy s b) ≡ true → IsOpen st
opened st space block copy old none s b lent = old s b (passed_other (is_lent (λ t. true)) st.copies space block copy none s b lent)

pub keeps_lends_open : (plan : Plan) (st : State) (event : Event) → IsSound plan st → May plan st event → LendsOpen (after plan st event)
keeps_lends_open plan st (Ask space block) sound may = sound.limits.lends_open
keeps_lends_open plan st Rest sound may = subst LendsOpen (sym (rested_at plan st may)) sound.limits.lends_open
keeps_lends_open plan st (Put block) sound may = opened st (st.homes block) block (fresh plan block 0) sound.limits.lends_open refl
keeps_lends_open plan st (Shift block space) sound may = λ s b lent.
    opened st (st.homes block) block None sound.limits.lends_open refl s b
    (passed_other (is_lent (λ t. true)) (at_copy st.copies (st.homes block) block None) space block (in_state state.Here (st.copies (st.homes block) block)) (none_in_state (is_lent (λ t. true)) state.Here (st.copies (st.homes block) block) refl) s b lent)
keeps_lends_open plan st (Free space block) sound may = opened st space block None sound.limits.lends_open refl
keeps_lends_open plan st (Begin r) sound may = λ s b lent. (r, refl)
keeps_lends_open plan st (Close r) sound may = λ s b lent. absurd (not_two (is_lent (λ t. true)) is_idle lent_idle (st.copies s b) lent (may.idle s b (passes_any (is_lent (λ t. true)) (st.copies s b) lent)))
keeps_lends_open plan st (Hold task) sound may = sound.limits.lends_open
keeps_lends_open plan st (Pick space block) sound may = opened st space block (in_state state.Leaving (st.copies space block)) sound.limits.lends_open (none_in_state (is_lent (λ t. true)) state.Leaving (st.copies space block) refl)
keeps_lends_open plan st (Gone space block) sound may = opened st space block (in_state state.Out (st.copies space block)) sound.limits.lends_open (none_in_state (is_lent (λ t. true)) state.Out (st.copies space block) refl)
keeps_lends_open plan st (Make task block) sound may = opened st (place plan task) block (fresh plan block states.blank) sound.limits.lends_open refl
keeps_lends_open plan st (Call space block) sound may = opened st space block (in_state state.Coming (st.copies space block)) sound.limits.lends_open (none_in_state (is_lent (λ t. true)) state.Coming (st.copies space block) refl)
keeps_lends_open plan st (Come space block) sound may = opened st space block (in_state state.Here (st.copies space block)) sound.limits.lends_open (none_in_state (is_lent (λ t. true)) state.Here (st.copies space block) refl)
keeps_lends_open plan st (Lend task block source) sound may = λ s b lent. fetch_open plan st task block sound may.asked
keeps_lends_open plan st (Copy task block source count) sound may = λ s b lent. fetch_open plan st task block sound may.1.asked
keeps_lends_open plan st (Claim task worker) sound may = sound.limits.lends_open
keeps_lends_open plan st (Finish task) sound may = λ s b lent. sound.limits.lends_open s b (sym (state_finished plan st task s b (is_lent (λ t. true))) ∙ lent)
keeps_lends_open plan st (Back block source count) sound may = λ s b lent. fetch_open plan st 0 block sound may.asked

-- ---- lends for the write-back

abbrev pub to_zero : CopyState → Bool
to_zero = is_lent (λ t. eqb t 0)

abbrev LendsPinned : Plan → State → Type 0
LendsPinned plan st = (s b : ℕ) → Has st s b to_zero → IsLentToPin plan st s b

lent_at_all : (s : CopyState) → to_zero s ≡ true → is_lent (λ t. true) s ≡ true
lent_at_all state.Here e = cc
lent_at_all state.Leaving e = cc
lent_at_all state.Out e = cc
lent_at_all state.Coming e = cc
lent_at_all (state.Lent t) e = refl

all_lent : (c : Option states.Copy) → is_in_state to_zero c ≡ true → is_in_state (is_lent (λ t. true)) c ≡ true
all_lent None e = cc
all_lent (Some c) e = lent_at_all c.state e

lend_open : (plan : Plan) (st : State) (s b : ℕ) → IsSound plan st → Has st s b to_zero → IsOpen st
lend_open plan st s b sound lent = sound.limits.lends_open s b (all_lent (st.copies s b) lent)

-- with such a lend every task of the open region is done
calm_lend : {A : Type 0} (plan : Plan) (st : State) (s b t : ℕ) (x : TaskState) → IsSound plan st → Has st s b to_zero → is_active x ≡ true → st.tasks t ≡ x → A
calm_lend plan st s b t x sound lent on is =
    let o = sound.limits.active_open t (ap is_active is ∙ on) in
    let p = (sound.limits.lends_pinned s b lent).0 in
    let done : x ≡ Done = pin_done plan st o.0 t x sound o.1 (λ none. let h : None ≡ Some (st.homes b, b) = sym none ∙ p in cc) o.2 is in
    absurd (let h : true ≡ false = sym on ∙ ap is_active done in cc)

-- the copies change, but not the versions at the home
lent_still : (plan : Plan) (st : State) (copies : ℕ → ℕ → Option states.Copy) (s b : ℕ) → versions_of (copies (st.homes b) b) ≡ versions_of (st.copies (st.homes b) b)
    → IsLentToPin plan st s b → IsLentToPin plan (record st { copies = copies }) s b
lent_still plan st copies s b same old = (
  old.0,
  (
    old.1.0,
    old.1.1,
    ap (λ (vs : List ℕ). not (eqb (slice_index vs old.1.0) (st.current (element plan b old.1.0))) && eqb (source plan st b old.1.0) s) same ∙ old.1.2,
  ),
)

lent_state : (plan : Plan) (st : State) (space block : ℕ) (new : CopyState) → IsSound plan st → to_zero new ≡ false → LendsPinned plan (record st { copies = at_copy st.copies space block (in_state new (st.copies space block)) })
lent_state plan st space block new sound none s b lent =
    let copy = in_state new (st.copies space block) in
    let old : Has st s b to_zero = passed_other to_zero st.copies space block copy (none_in_state to_zero new (st.copies space block) none) s b lent in
    lent_still plan st (at_copy st.copies space block copy) s b (same_at versions_of st.copies space block copy (versions_in_state new (st.copies space block)) (st.homes b) b) (sound.limits.lends_pinned s b old)

where_other : (changed : ℕ → Bool) (new : ℕ → ℕ) (vs : List ℕ) (k i : ℕ) → changed (k + i) ≡ false → slice_index (versions_where changed new k vs) i ≡ slice_index vs i
where_other changed new [] k i off = refl
where_other changed new (v ∷ vs) k zero off = let e : k + 0 ≡ k = omega arith in ap (λ (t : Bool). cond t (new k) v) (ap changed (sym e) ∙ off)
where_other changed new (v ∷ vs) k (suc i) off = let e : (k + 1) + i ≡ k + suc i = omega arith in where_other changed new vs (k + 1) i (ap changed e ∙ off)

copy_where_other : (changed : ℕ → Bool) (new : ℕ → ℕ) (c : Option states.Copy) (i : ℕ) → changed i ≡ false → slice_index (versions_of (copy_where changed new c)) i ≡ slice_index (versions_of c) i
copy_where_other changed new None i off = refl
copy_where_other changed new (Some c) i off = let e : 0 + i ≡ i = omega arith in where_other changed new c.versions 0 i (ap changed e ∙ off)

and_false : (x : Bool) → (x && false) ≡ false
and_false true = refl
and_false false = refl

lent_here : (s : CopyState) → to_zero s ≡ true → is_here s ≡ true → ⊥
lent_here state.Here a b = cc
lent_here state.Leaving a b = cc
lent_here state.Out a b = cc
lent_here state.Coming a b = cc
lent_here (state.Lent t) a b = cc

-- what a Back leaves lent comes from another space than it took from
back_other : (plan : Plan) (st : State) (block source count s : ℕ) → MayCopy plan st 0 block source count → is_in_state to_zero ((after_copy plan st 0 block source count).copies s block) ≡ true → s ≡ source → ⊥
back_other plan st block source count s may lent same = ⊎_elim
    (λ (e : (s ≡ st.homes block) × (block ≡ block) × (at_copy lender (st.homes block) block own s block ≡ own)).
    not_two to_zero is_here lent_here (st.copies (st.homes block) block)
    (sym (state_where (is_needed plan st 0 block source) (λ i. st.current (element plan block i)) to_zero (st.copies (st.homes block) block)) ∙ ap (is_in_state to_zero) (sym e.2) ∙ lent) may.here)
    (λ (e : (s ≡ st.homes block → block ≡ block → ⊥) × (at_copy lender (st.homes block) block own s block ≡ lender s block)).
    let h : true ≡ false = sym lent ∙ ap (is_in_state to_zero) e.1 ∙ ap (λ (x : ℕ). is_in_state to_zero (lender x block)) same ∙ ap (is_in_state to_zero) (at_copy_same st.copies source block (given_back (st.copies source block))) ∙ lent_given (λ t. eqb t 0) (st.copies source block) in cc)
    (at_copy_tells lender (st.homes block) block own s block)
  where
    lender : ℕ → ℕ → Option states.Copy
    lender = at_copy st.copies source block (given_back (st.copies source block))

    own : Option states.Copy
    own = copy_where (is_needed plan st 0 block source) (λ i. st.current (element plan block i)) (st.copies (st.homes block) block)

held_task : (st : State) (task block : ℕ) → 1 ≤ task → MayFetch st task block → st.tasks task ≡ Held
held_task st zero block low may = absurd (omega (arith, low))
held_task st (suc t) block low may = may

pub keeps_lends_pinned : (plan : Plan) (st : State) (event : Event) → IsSound plan st → May plan st event → LendsPinned plan (after plan st event)
keeps_lends_pinned plan st (Ask space block) sound may = λ s b lent. out_or_in may.no_pin (sound.limits.lends_pinned s b lent).0
keeps_lends_pinned plan st Rest sound may = subst (LendsPinned plan) (sym (rested_at plan st may)) (λ s b lent.
    let o = lend_open plan st s b sound lent in
    let old = sound.limits.lends_pinned s b lent in
    let p = pair_same (pin_of plan st may).0 (st.homes b) (pin_of plan st may).1 b (sym (pin_of plan st may).2 ∙ old.0) in
    let ready : is_current plan st (st.homes b) b ≡ true = ap (λ (x : ℕ). is_current plan st x b) (sym p.0) ∙ ap (is_current plan st (pin_of plan st may).0) (sym p.1) ∙ (pin_of plan st may).3.current o.0 o.1 in
    let i = old.1.0 in
    let e : 0 + i ≡ i = omega arith in
    let now : is_current_at plan st (st.homes b) b i ≡ true = ap (is_current_at plan st (st.homes b) b) (sym e) ∙ all_at (is_current_at plan st (st.homes b) b) 0 (size plan b) i ready old.1.1 in
    let stale : is_current_at plan st (st.homes b) b i ≡ false = not-true (is_current_at plan st (st.homes b) b i) (and_parts (not (is_current_at plan st (st.homes b) b i)) (eqb (source plan st b i) s) old.1.2).0 in
    absurd (let h : true ≡ false = sym now ∙ stale in cc))
keeps_lends_pinned plan st (Put block) sound may = λ s b lent.
    out_or_in may.outside (lend_open plan st s b sound (passed_other to_zero st.copies (st.homes block) block (fresh plan block 0) refl s b lent)).1
keeps_lends_pinned plan st (Shift block space) sound may = λ s b lent.
    out_or_in may.outside (lend_open plan st s b sound (passed_other to_zero st.copies (st.homes block) block None refl s b
    (passed_other to_zero (at_copy st.copies (st.homes block) block None) space block (in_state state.Here (st.copies (st.homes block) block)) (none_in_state to_zero state.Here (st.copies (st.homes block) block) refl) s b lent))).1
keeps_lends_pinned plan st (Free space block) sound may = λ s b lent.
    let old : Has st s b to_zero = passed_other to_zero st.copies space block None refl s b lent in
    let o = lend_open plan st s b sound old in
    out_or_in (may.no_pin o.0 o.1) (sound.limits.lends_pinned s b old).0
keeps_lends_pinned plan st (Begin r) sound may = λ s b lent. out_or_in may.outside (lend_open plan st s b sound lent).1
keeps_lends_pinned plan st (Close r) sound may = λ s b lent. out_or_in may.no_pin (sound.limits.lends_pinned s b lent).0
keeps_lends_pinned plan st (Hold task) sound may = sound.limits.lends_pinned
keeps_lends_pinned plan st (Pick space block) sound may = lent_state plan st space block state.Leaving sound refl
keeps_lends_pinned plan st (Gone space block) sound may = lent_state plan st space block state.Out sound refl
keeps_lends_pinned plan st (Make task block) sound may = λ s b lent.
    calm_lend plan st s b task Held sound (passed_other to_zero st.copies (place plan task) block (fresh plan block states.blank) refl s b lent) refl may.held
keeps_lends_pinned plan st (Call space block) sound may = lent_state plan st space block state.Coming sound refl
keeps_lends_pinned plan st (Come space block) sound may = lent_state plan st space block state.Here sound refl
keeps_lends_pinned plan st (Lend task block source) sound may = λ s b lent. ⊎_elim
    (λ (e : (s ≡ source) × (b ≡ block) × (at_copy st.copies source block copy s b ≡ copy)).
    let zero_task : task ≡ 0 = lent_zero (st.copies source block) (ap (is_in_state to_zero) (sym e.2) ∙ lent) in
    let asked : MayFetch st 0 block = subst (λ (t : ℕ). MayFetch st t block) zero_task may.asked in
    let some : 0 < length (needed plan st 0 block source) = subst (λ (t : ℕ). 0 < length (needed plan st t block source)) zero_task may.some_needed in
    let k = kept_one (is_needed plan st 0 block source) 0 (size plan block) some in
    let old : IsLentToPin plan st source block = (asked.1, (k.0, omega (arith, k.2), k.3)) in
    lent_still plan st (at_copy st.copies source block copy) s b (same_at versions_of st.copies source block copy (versions_in_state (state.Lent task) (st.copies source block)) (st.homes b) b)
    (subst (λ (x : ℕ). IsLentToPin plan st x b) (sym e.0) (subst (λ (y : ℕ). IsLentToPin plan st source y) (sym e.1) old)))
    (λ (e : (s ≡ source → b ≡ block → ⊥) × (at_copy st.copies source block copy s b ≡ st.copies s b)).
    lent_still plan st (at_copy st.copies source block copy) s b (same_at versions_of st.copies source block copy (versions_in_state (state.Lent task) (st.copies source block)) (st.homes b) b)
    (sound.limits.lends_pinned s b (ap (is_in_state to_zero) (sym e.1) ∙ lent)))
    (at_copy_tells st.copies source block copy s b)
  where
    copy : Option states.Copy
    copy = in_state (state.Lent task) (st.copies source block)

    lent_zero : (c : Option states.Copy) → is_in_state to_zero (in_state (state.Lent task) c) ≡ true → task ≡ 0
    lent_zero None e = absurd cc
    lent_zero (Some c) e = eqb-true task 0 e
keeps_lends_pinned plan st (Copy task block source count) sound may = λ s b lent.
    calm_lend plan st s b task Held sound
    (passed_copied plan st task block source count to_zero (λ e. absurd (let h : true ≡ false = sym e ∙ lent_given (λ t. eqb t 0) (st.copies source block) in cc)) s b lent)
    refl (held_task st task block may.0 may.1.asked)
keeps_lends_pinned plan st (Claim task worker) sound may = sound.limits.lends_pinned
keeps_lends_pinned plan st (Finish task) sound may = λ s b lent. calm_lend plan st s b task (Running (running_by (st.tasks task) may).0) sound (sym (state_finished plan st task s b to_zero) ∙ lent) refl (running_by (st.tasks task) may).1
keeps_lends_pinned plan st (Back block source count) sound may = λ s b lent.
    let old_lent : Has st s b to_zero = passed_copied plan st 0 block source count to_zero (λ e. absurd (let h : true ≡ false = sym e ∙ lent_given (λ t. eqb t 0) (st.copies source block) in cc)) s b lent in
    let old = sound.limits.lends_pinned s b old_lent in
    let p = pair_same (st.homes b) (st.homes block) b block (sym old.0 ∙ may.asked.1) in
    let away : s ≡ source → ⊥ = back_other plan st block source count s may (subst (λ (y : ℕ). is_in_state to_zero ((after_copy plan st 0 block source count).copies s y) ≡ true) p.1 lent) in
    let old' : IsLentToPin plan st s block = subst (IsLentToPin plan st s) p.1 old in
    subst (IsLentToPin plan (after_copy plan st 0 block source count) s) (sym p.1) (still s old' away)
  where
    own : Option states.Copy
    own = copy_where (is_needed plan st 0 block source) (λ i. st.current (element plan block i)) (st.copies (st.homes block) block)

    lender : ℕ → ℕ → Option states.Copy
    lender = at_copy st.copies source block (given_back (st.copies source block))

    still : (s : ℕ) → IsLentToPin plan st s block → (s ≡ source → ⊥) → IsLentToPin plan (after_copy plan st 0 block source count) s block
    still s old away =
        let i = old.1.0 in
        let parts = and_parts (not (is_current_at plan st (st.homes block) block i)) (eqb (source_in plan st.region (st.homes block) (st.current (element plan block i))) s) old.1.2 in
        let from : source_in plan st.region (st.homes block) (st.current (element plan block i)) ≡ s = eqb-true (source_in plan st.region (st.homes block) (st.current (element plan block i))) s parts.1 in
        let off : is_needed plan st 0 block source i ≡ false =
        ap (λ (x : ℕ). not (is_current_at plan st (st.homes block) block i) && eqb x source) from
        ∙ ap (λ (t : Bool). not (is_current_at plan st (st.homes block) block i) && t) (ne_eqb s source away) ∙ and_false (not (is_current_at plan st (st.homes block) block i)) in
        let same : slice_index (versions_of (at_copy lender (st.homes block) block own (st.homes block) block)) i ≡ slice_index (versions_of (st.copies (st.homes block) block)) i =
        ap (λ (c : Option states.Copy). slice_index (versions_of c) i) (at_copy_same lender (st.homes block) block own)
        ∙ copy_where_other (is_needed plan st 0 block source) (λ j. st.current (element plan block j)) (st.copies (st.homes block) block) i off in
        (old.0, (i, old.1.1, ap (λ (v : ℕ). not (eqb v (st.current (element plan block i))) && eqb (source_in plan st.region (st.homes block) (st.current (element plan block i))) s) same ∙ old.1.2))
