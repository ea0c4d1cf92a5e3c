-- Outside a region every copy is at its home, current, and Here or Out where nothing is pinned.
use Rattle.std.proofs.Common.{◌≡◌, ◌≢◌, ℕ, zero, suc, ◌<◌, true, false, eqb, replicate, Option, Some, None, refl, ap, sym, ◌∙◌, subst, ⊎_elim, arith}
use Rattle.std.specs.Prelude.{slice_index}
use Rattle.std.specs.List.{list_any, range_with_len}
use Rattle.std.proofs.lemmas.Bool.{eq-eqb, eqb-true, and_parts, or_cases}
use Rattle.std.proofs.lemmas.Bool.Decides.{eqb_tells}
use Rattle.dd_blocks.specs.declared.plan.Plan.{Plan}
use Rattle.dd_machine.specs.declared.copy_state.CopyState.{CopyState}
use Rattle.dd_machine.specs.declared.copy_state.CopyState.TheVariants as state
use Rattle.dd_machine.specs.declared.event.Event.{Event}
use Rattle.dd_machine.specs.declared.event.Event.TheVariants.{Ask, Rest, Put, Shift, Free, Begin, Hold, Pick, Gone, Make, Call, Come, Lend, Copy, Claim, Finish, Back, Close}
use Rattle.dd_machine.specs.Effects.{after, fresh, in_state}
use Rattle.dd_machine.specs.Legal.{IsNext, May}
use Rattle.dd_machine.specs.Orderly.{IsOrderly}
use Rattle.dd_machine.specs.Sound.{IsSound}
use Rattle.dd_machine.specs.SoundLimits.{IsOpen}
use Rattle.dd_machine.specs.States as states
use Rattle.dd_machine.specs.States.{Progress, State, at_copy, at_one}
use Rattle.dd_machine.specs.Tests.{Has, is_any, is_here, is_idle, is_in_state, versions_of}
use Rattle.dd_machine.specs.Words.{tasks}
use Rattle.dd_machine.proofs.ChangesLemmas.{at_copy_tells, at_one_other, at_one_same}
use Rattle.dd_machine.proofs.TestsLemmas.{any_in_state, current_same, fetch_open, pin_of, rested_at, running_by, same_at, versions_in_state}
use Rattle.dd_machine.specs.Bytes.{is_used}
use Rattle.dd_machine.specs.Needed.{is_current}
use Rattle.dd_machine.specs.Tests.{is_coming, is_leaving, is_lent, is_pin, is_active}
use Rattle.dd_machine.specs.Words.{element, size}
use Rattle.dd_machine.proofs.CalmLemmas.{nobody_at_work, nothing_pinned, nothing_used, quiet_load}
use Rattle.dd_machine.proofs.RangesLemmas.{all_below}

-- an open region isn't none
pub not_both : {A : Type 0} (st : State) → st.region ≡ None → IsOpen st → A
not_both st out open_in = let is = open_in.1 in absurd (let h : None ≡ Some open_in.0 = sym out ∙ is in cc)

pub held_open : (plan : Plan) (st : State) (t : ℕ) → IsSound plan st → is_active (st.tasks t) ≡ true → IsOpen st
held_open plan st t sound on = let o = sound.limits.active_open t on in (o.0, o.1)

none_there : {A : Type 0} → is_in_state is_any None ≡ true → A
none_there there = absurd cc

abbrev AtHome : Plan → State → Type 0
AtHome plan st = st.region ≡ None → (s b : ℕ) → Has st s b is_any → st.homes b ≡ s

-- one copy was changed, and is there as before
home_at : (plan : Plan) (st : State) (space block : ℕ) (copy : Option states.Copy) → IsSound plan st → is_in_state is_any copy ≡ is_in_state is_any (st.copies space block)
    → st.region ≡ None → (s b : ℕ) → is_in_state is_any (at_copy st.copies space block copy s b) ≡ true → st.homes b ≡ s
home_at plan st space block copy sound same out s b there = sound.lives.at_home out s b (sym (same_at (is_in_state is_any) st.copies space block copy same s b) ∙ there)

pub keeps_at_home : (plan : Plan) (st : State) (event : Event) → IsSound plan st → May plan st event → AtHome plan (after plan st event)
keeps_at_home plan st (Ask space block) sound may = sound.lives.at_home
keeps_at_home plan st Rest sound may = subst (AtHome plan) (sym (rested_at plan st may)) sound.lives.at_home
keeps_at_home plan st (Put block) sound may = λ out s b there. ⊎_elim
    (λ (e : (s ≡ st.homes block) × (b ≡ block) × (at_copy st.copies (st.homes block) block (fresh plan block 0) s b ≡ fresh plan block 0)). ap st.homes e.1 ∙ sym e.0)
    (λ (e : (s ≡ st.homes block → b ≡ block → ⊥) × (at_copy st.copies (st.homes block) block (fresh plan block 0) s b ≡ st.copies s b)). sound.lives.at_home out s b (ap (is_in_state is_any) (sym e.1) ∙ there))
    (at_copy_tells st.copies (st.homes block) block (fresh plan block 0) s b)
keeps_at_home plan st (Shift block space) sound may = λ out s b there. ⊎_elim
    (λ (e : (s ≡ space) × (b ≡ block) × (at_copy (at_copy st.copies (st.homes block) block None) space block (in_state state.Here (st.copies (st.homes block) block)) s b ≡ in_state state.Here (st.copies (st.homes block) block))).
    ap (at_one st.homes block space) e.1 ∙ at_one_same st.homes block space ∙ sym e.0)
    (λ (e : (s ≡ space → b ≡ block → ⊥) × (at_copy (at_copy st.copies (st.homes block) block None) space block (in_state state.Here (st.copies (st.homes block) block)) s b ≡ at_copy st.copies (st.homes block) block None s b)).
    ⊎_elim
    (λ (f : (s ≡ st.homes block) × (b ≡ block) × (at_copy st.copies (st.homes block) block None s b ≡ None)). none_there (ap (is_in_state is_any) (sym (e.1 ∙ f.2)) ∙ there))
    (λ (f : (s ≡ st.homes block → b ≡ block → ⊥) × (at_copy st.copies (st.homes block) block None s b ≡ st.copies s b)).
    let home : st.homes b ≡ s = sound.lives.at_home out s b (ap (is_in_state is_any) (sym (e.1 ∙ f.1)) ∙ there) in
    at_one_other st.homes block space b (λ same. f.0 (sym home ∙ ap st.homes same) same) ∙ home)
    (at_copy_tells st.copies (st.homes block) block None s b))
    (at_copy_tells (at_copy st.copies (st.homes block) block None) space block (in_state state.Here (st.copies (st.homes block) block)) s b)
keeps_at_home plan st (Free space block) sound may = λ out s b there. ⊎_elim
    (λ (e : (s ≡ space) × (b ≡ block) × (at_copy st.copies space block None s b ≡ None)). none_there (ap (is_in_state is_any) (sym e.2) ∙ there))
    (λ (e : (s ≡ space → b ≡ block → ⊥) × (at_copy st.copies space block None s b ≡ st.copies s b)). sound.lives.at_home out s b (ap (is_in_state is_any) (sym e.1) ∙ there))
    (at_copy_tells st.copies space block None s b)
keeps_at_home plan st (Begin r) sound may = λ out. absurd cc
keeps_at_home plan st (Close r) sound may = λ out. may.at_home
keeps_at_home plan st (Hold task) sound may = sound.lives.at_home
keeps_at_home plan st (Pick space block) sound may = home_at plan st space block (in_state state.Leaving (st.copies space block)) sound (any_in_state state.Leaving (st.copies space block))
keeps_at_home plan st (Gone space block) sound may = home_at plan st space block (in_state state.Out (st.copies space block)) sound (any_in_state state.Out (st.copies space block))
keeps_at_home plan st (Make task block) sound may = λ out. not_both st out (held_open plan st task sound (rw may.held refl))
keeps_at_home plan st (Call space block) sound may = home_at plan st space block (in_state state.Coming (st.copies space block)) sound (any_in_state state.Coming (st.copies space block))
keeps_at_home plan st (Come space block) sound may = home_at plan st space block (in_state state.Here (st.copies space block)) sound (any_in_state state.Here (st.copies space block))
keeps_at_home plan st (Lend task block source) sound may = λ out. not_both st out (fetch_open plan st task block sound may.asked)
keeps_at_home plan st (Copy task block source count) sound may = λ out. not_both st out (fetch_open plan st task block sound may.1.asked)
keeps_at_home plan st (Claim task worker) sound may = sound.lives.at_home
keeps_at_home plan st (Finish task) sound may = λ out. not_both st out (held_open plan st task sound (rw (running_by (st.tasks task) may).1 refl))
keeps_at_home plan st (Back block source count) sound may = λ out. not_both st out (fetch_open plan st 0 block sound may.asked)

abbrev HomeIdle : Plan → State → Type 0
HomeIdle plan st = st.region ≡ None → st.pin ≡ None → (s b : ℕ) → Has st s b is_any → Has st s b is_idle

idle_from : (c : Option states.Copy) → is_in_state is_any c ≡ true → is_in_state is_leaving c ≡ false → (is_in_state is_coming c ≡ true → ⊥) → (is_in_state (is_lent (λ t. true)) c ≡ true → ⊥) → is_in_state is_idle c ≡ true
idle_from None any leaving coming lent = absurd cc
idle_from (Some c) any leaving coming lent = by c.state leaving coming lent
  where
    by : (s : CopyState) → is_leaving s ≡ false → (is_coming s ≡ true → ⊥) → (is_lent (λ t. true) s ≡ true → ⊥) → is_idle s ≡ true
    by state.Here a b c = refl
    by state.Leaving a b c = absurd cc
    by state.Out a b c = refl
    by state.Coming a b c = absurd (b refl)
    by (state.Lent t) a b c = absurd (c refl)

pub here_not_coming : (c : Option states.Copy) → is_in_state is_here c ≡ true → is_in_state is_coming c ≡ true → ⊥
here_not_coming None here coming = cc
here_not_coming (Some c) here coming = by c.state here coming
  where
    by : (s : CopyState) → is_here s ≡ true → is_coming s ≡ true → ⊥
    by state.Here a b = cc
    by state.Leaving a b = cc
    by state.Out a b = cc
    by state.Coming a b = cc
    by (state.Lent t) a b = cc

-- what is Coming outside a region is the pinned copy
coming_is_pin : (plan : Plan) (st : State) (space block s b : ℕ) → IsSound plan st → st.region ≡ None → st.pin ≡ Some (space, block) → Has st s b is_coming → (space ≡ s) × (block ≡ b)
coming_is_pin plan st space block s b sound out pin coming = ⊎_elim
    (λ (p : is_pin st.pin s b ≡ true).
    let both = and_parts (eqb space s) (eqb block b) (sym (ap (λ (o : Option (ℕ × ℕ)). is_pin o s b) pin) ∙ p) in
    (eqb-true space s both.0, eqb-true block b both.1))
    (λ (u : list_any (is_used plan st s b) (range_with_len 1 (tasks plan)) ≡ true).
    absurd (let n = nothing_used plan st s b (nobody_at_work plan st sound out) in cc))
    (or_cases (is_pin st.pin s b) (list_any (is_used plan st s b) (range_with_len 1 (tasks plan))) (sound.lives.coming_pinned s b coming))

idle_state : (new : CopyState) (c : Option states.Copy) → is_idle new ≡ true → is_in_state is_any c ≡ true → is_in_state is_idle (in_state new c) ≡ true
idle_state new None idle any = absurd cc
idle_state new (Some c) idle any = idle

-- one copy was changed to an idle state
idle_at : (plan : Plan) (st : State) (space block : ℕ) (new : CopyState) → IsSound plan st → is_idle new ≡ true → st.region ≡ None → st.pin ≡ None
    → (s b : ℕ) → is_in_state is_any (at_copy st.copies space block (in_state new (st.copies space block)) s b) ≡ true → is_in_state is_idle (at_copy st.copies space block (in_state new (st.copies space block)) s b) ≡ true
idle_at plan st space block new sound idle out no_pin s b there = ⊎_elim
    (λ (e : (s ≡ space) × (b ≡ block) × (at_copy st.copies space block (in_state new (st.copies space block)) s b ≡ in_state new (st.copies space block))).
    ap (is_in_state is_idle) e.2 ∙ idle_state new (st.copies space block) idle (sym (any_in_state new (st.copies space block)) ∙ ap (is_in_state is_any) (sym e.2) ∙ there))
    (λ (e : (s ≡ space → b ≡ block → ⊥) × (at_copy st.copies space block (in_state new (st.copies space block)) s b ≡ st.copies s b)).
    ap (is_in_state is_idle) e.1 ∙ sound.lives.home_idle out no_pin s b (ap (is_in_state is_any) (sym e.1) ∙ there))
    (at_copy_tells st.copies space block (in_state new (st.copies space block)) s b)

pub keeps_home_idle : (plan : Plan) (st : State) (event : Event) → IsSound plan st → May plan st event → HomeIdle plan (after plan st event)
keeps_home_idle plan st (Ask space block) sound may = λ out no_pin. absurd cc
keeps_home_idle plan st Rest sound may = subst (HomeIdle plan) (sym (rested_at plan st may))
    (λ out no_pin s b there. idle_from (st.copies s b) there (may.none_leaving s b)
    (λ coming.
    let is = coming_is_pin plan st (pin_of plan st may).0 (pin_of plan st may).1 s b sound out (pin_of plan st may).2 coming in
    here_not_coming (st.copies s b) (subst (λ (x : ℕ). Has st x b is_here) is.0 (subst (λ (y : ℕ). Has st (pin_of plan st may).0 y is_here) is.1 (pin_of plan st may).3.here)) coming)
    (λ lent. not_both st out (sound.limits.lends_open s b lent)))
keeps_home_idle plan st (Put block) sound may = λ out no_pin. let p = may.pin in absurd cc
keeps_home_idle plan st (Shift block space) sound may = λ out no_pin. let p = may.pin in absurd cc
keeps_home_idle plan st (Free space block) sound may = λ out no_pin s b there. ⊎_elim
    (λ (e : (s ≡ space) × (b ≡ block) × (at_copy st.copies space block None s b ≡ None)). none_there (ap (is_in_state is_any) (sym e.2) ∙ there))
    (λ (e : (s ≡ space → b ≡ block → ⊥) × (at_copy st.copies space block None s b ≡ st.copies s b)).
    ap (is_in_state is_idle) e.1 ∙ sound.lives.home_idle out no_pin s b (ap (is_in_state is_any) (sym e.1) ∙ there))
    (at_copy_tells st.copies space block None s b)
keeps_home_idle plan st (Begin r) sound may = λ out. absurd cc
keeps_home_idle plan st (Close r) sound may = λ out no_pin. may.idle
keeps_home_idle plan st (Hold task) sound may = sound.lives.home_idle
keeps_home_idle plan st (Pick space block) sound may = λ out no_pin.
    let quiet = quiet_load plan st space sound out no_pin in
    let within = sound.limits.within space may.space_is in
    absurd (omega (arith, may.over, quiet, within))
keeps_home_idle plan st (Gone space block) sound may = idle_at plan st space block state.Out sound refl
keeps_home_idle plan st (Make task block) sound may = λ out. not_both st out (held_open plan st task sound (rw may.held refl))
keeps_home_idle plan st (Call space block) sound may = λ out no_pin. let n = nothing_pinned plan st sound out no_pin space block in let p = may.pinned in absurd cc
keeps_home_idle plan st (Come space block) sound may = idle_at plan st space block state.Here sound refl
keeps_home_idle plan st (Lend task block source) sound may = λ out. not_both st out (fetch_open plan st task block sound may.asked)
keeps_home_idle plan st (Copy task block source count) sound may = λ out. not_both st out (fetch_open plan st task block sound may.1.asked)
keeps_home_idle plan st (Claim task worker) sound may = sound.lives.home_idle
keeps_home_idle plan st (Finish task) sound may = λ out. not_both st out (held_open plan st task sound (rw (running_by (st.tasks task) may).1 refl))
keeps_home_idle plan st (Back block source count) sound may = λ out. not_both st out (fetch_open plan st 0 block sound may.asked)

abbrev HomeCurrent : Plan → State → Type 0
HomeCurrent plan st = st.region ≡ None → (s b : ℕ) → Has st s b is_any → is_current plan st s b ≡ true

-- one copy was changed, but for its versions
current_at : (plan : Plan) (st new : State) (space block : ℕ) (state_is : CopyState) → IsSound plan st → new.current ≡ st.current → new.copies ≡ at_copy st.copies space block (in_state state_is (st.copies space block))
    → st.region ≡ None → (s b : ℕ) → Has new s b is_any → is_current plan new s b ≡ true
current_at plan st new space block state_is sound now copies out s b there =
    let here : new.copies s b ≡ at_copy st.copies space block (in_state state_is (st.copies space block)) s b = ap (λ (f : ℕ → ℕ → Option states.Copy). f s b) copies in
    let old : Has st s b is_any = sym (same_at (is_in_state is_any) st.copies space block (in_state state_is (st.copies space block)) (any_in_state state_is (st.copies space block)) s b) ∙ ap (is_in_state is_any) (sym here) ∙ there in
    current_same plan st new s s b now (ap versions_of here ∙ same_at versions_of st.copies space block (in_state state_is (st.copies space block)) (versions_in_state state_is (st.copies space block)) s b)
    ∙ sound.lives.home_current out s b old

idle_is_any : (c : Option states.Copy) → is_in_state is_idle c ≡ true → is_in_state is_any c ≡ true
idle_is_any None e = cc
idle_is_any (Some c) e = refl

at_replicate : (n v i : ℕ) → i < n → slice_index (replicate n v) i ≡ v
at_replicate zero v i lt = absurd (omega (arith, lt))
at_replicate (suc n) v zero lt = refl
at_replicate (suc n) v (suc i) lt = at_replicate n v i (omega (arith, lt))

-- no element of a block that is put next was ever written
unput_zero : (plan : Plan) (st : State) (block i : ℕ) → IsOrderly plan → IsSound plan st → IsNext plan st (Put block) → i < size plan block → st.current (element plan block i) ≡ 0
unput_zero plan st block i orderly sound next lt = ⊎_elim
    (λ (e : (eqb (st.current (element plan block i)) 0 ≡ true) × (st.current (element plan block i) ≡ 0)). e.1)
    (λ (e : (eqb (st.current (element plan block i)) 0 ≡ false) × (st.current (element plan block i) ≢ 0)).
    let t = st.current (element plan block i) in
    let done = sound.lives.current_done (element plan block i) e.1 in
    let begun = sound.lives.begun t (rw done.0 refl) in
    let none = orderly.unput st.progress block t i next lt begun in
    let wrote = done.1 in
    absurd (let h : true ≡ false = sym wrote ∙ none in cc))
    (eqb_tells (st.current (element plan block i)) 0)

pub keeps_home_current : (plan : Plan) (st : State) (event : Event) → IsOrderly plan → IsSound plan st → May plan st event → HomeCurrent plan (after plan st event)
keeps_home_current plan st (Ask space block) orderly sound may = sound.lives.home_current
keeps_home_current plan st Rest orderly sound may = subst (HomeCurrent plan) (sym (rested_at plan st may)) sound.lives.home_current
keeps_home_current plan st (Put block) orderly sound may = λ out s b there. ⊎_elim
    (λ (e : (s ≡ st.homes block) × (b ≡ block) × (at_copy st.copies (st.homes block) block (fresh plan block 0) s b ≡ fresh plan block 0)).
    all_below (λ i. eqb (slice_index (versions_of (at_copy st.copies (st.homes block) block (fresh plan block 0) s b)) i) (st.current (element plan b i))) (size plan b)
    (λ i lt.
    let lt' : i < size plan block = subst (λ (x : ℕ). i < size plan x) e.1 lt in
    eq-eqb (slice_index (versions_of (at_copy st.copies (st.homes block) block (fresh plan block 0) s b)) i) (st.current (element plan b i))
    (ap (λ (c : Option states.Copy). slice_index (versions_of c) i) e.2 ∙ at_replicate (size plan block) 0 i lt' ∙ sym (ap (λ (x : ℕ). st.current (element plan x i)) e.1 ∙ unput_zero plan st block i orderly sound may.due lt'))))
    (λ (e : (s ≡ st.homes block → b ≡ block → ⊥) × (at_copy st.copies (st.homes block) block (fresh plan block 0) s b ≡ st.copies s b)).
    current_same plan st (after plan st (Put block)) s s b refl (ap versions_of e.1) ∙ sound.lives.home_current out s b (ap (is_in_state is_any) (sym e.1) ∙ there))
    (at_copy_tells st.copies (st.homes block) block (fresh plan block 0) s b)
keeps_home_current plan st (Shift block space) orderly sound may = λ out s b there. ⊎_elim
    (λ (e : (s ≡ space) × (b ≡ block) × (at_copy (at_copy st.copies (st.homes block) block None) space block (in_state state.Here (st.copies (st.homes block) block)) s b ≡ in_state state.Here (st.copies (st.homes block) block))).
    current_same plan st (after plan st (Shift block space)) s (st.homes block) b refl
    (ap versions_of e.2 ∙ versions_in_state state.Here (st.copies (st.homes block) block) ∙ ap (λ (y : ℕ). versions_of (st.copies (st.homes block) y)) (sym e.1))
    ∙ sound.lives.home_current out (st.homes block) b (subst (λ (y : ℕ). Has st (st.homes block) y is_any) (sym e.1) (idle_is_any (st.copies (st.homes block) block) may.idle)))
    (λ (e : (s ≡ space → b ≡ block → ⊥) × (at_copy (at_copy st.copies (st.homes block) block None) space block (in_state state.Here (st.copies (st.homes block) block)) s b ≡ at_copy st.copies (st.homes block) block None s b)).
    ⊎_elim
    (λ (f : (s ≡ st.homes block) × (b ≡ block) × (at_copy st.copies (st.homes block) block None s b ≡ None)). none_there (ap (is_in_state is_any) (sym (e.1 ∙ f.2)) ∙ there))
    (λ (f : (s ≡ st.homes block → b ≡ block → ⊥) × (at_copy st.copies (st.homes block) block None s b ≡ st.copies s b)).
    current_same plan st (after plan st (Shift block space)) s s b refl (ap versions_of (e.1 ∙ f.1)) ∙ sound.lives.home_current out s b (ap (is_in_state is_any) (sym (e.1 ∙ f.1)) ∙ there))
    (at_copy_tells st.copies (st.homes block) block None s b))
    (at_copy_tells (at_copy st.copies (st.homes block) block None) space block (in_state state.Here (st.copies (st.homes block) block)) s b)
keeps_home_current plan st (Free space block) orderly sound may = λ out s b there. ⊎_elim
    (λ (e : (s ≡ space) × (b ≡ block) × (at_copy st.copies space block None s b ≡ None)). none_there (ap (is_in_state is_any) (sym e.2) ∙ there))
    (λ (e : (s ≡ space → b ≡ block → ⊥) × (at_copy st.copies space block None s b ≡ st.copies s b)).
    current_same plan st (after plan st (Free space block)) s s b refl (ap versions_of e.1) ∙ sound.lives.home_current out s b (ap (is_in_state is_any) (sym e.1) ∙ there))
    (at_copy_tells st.copies space block None s b)
keeps_home_current plan st (Begin r) orderly sound may = λ out. absurd cc
keeps_home_current plan st (Close r) orderly sound may = λ out. may.current
keeps_home_current plan st (Hold task) orderly sound may = sound.lives.home_current
keeps_home_current plan st (Pick space block) orderly sound may = current_at plan st (after plan st (Pick space block)) space block state.Leaving sound refl refl
keeps_home_current plan st (Gone space block) orderly sound may = current_at plan st (after plan st (Gone space block)) space block state.Out sound refl refl
keeps_home_current plan st (Make task block) orderly sound may = λ out. not_both st out (held_open plan st task sound (rw may.held refl))
keeps_home_current plan st (Call space block) orderly sound may = current_at plan st (after plan st (Call space block)) space block state.Coming sound refl refl
keeps_home_current plan st (Come space block) orderly sound may = current_at plan st (after plan st (Come space block)) space block state.Here sound refl refl
keeps_home_current plan st (Lend task block source) orderly sound may = λ out. not_both st out (fetch_open plan st task block sound may.asked)
keeps_home_current plan st (Copy task block source count) orderly sound may = λ out. not_both st out (fetch_open plan st task block sound may.1.asked)
keeps_home_current plan st (Claim task worker) orderly sound may = sound.lives.home_current
keeps_home_current plan st (Finish task) orderly sound may = λ out. not_both st out (held_open plan st task sound (rw (running_by (st.tasks task) may).1 refl))
keeps_home_current plan st (Back block source count) orderly sound may = λ out. not_both st out (fetch_open plan st 0 block sound may.asked)
