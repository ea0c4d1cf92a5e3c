-- No space passes its limit, event by event.
use Rattle.std.proofs.Common.{◌≡◌, ◌≢◌, ◌⊎◌, ℕ, zero, suc, ◌+◌, ◌≤◌, Bool, true, false, cond, eqb, Option, Some, None, refl, ap, sym, ◌∙◌, subst, inl, inr, ⊎_elim, arith}
use Rattle.std.proofs.lemmas.Bool.{cases_eq, eqb-true, false_from_ne_true, ne_eqb}
use Rattle.std.proofs.lemmas.Bool.Decides.{eqb_tells}
use Rattle.dd_blocks.specs.declared.plan.Plan.{Plan}
use Rattle.dd_machine.specs.declared.copy_state.CopyState.{CopyState}
use Rattle.dd_machine.specs.declared.copy_state.CopyState.TheVariants as state
use Rattle.dd_machine.specs.declared.event.Event.{Event}
use Rattle.dd_machine.specs.declared.event.Event.TheVariants.{Ask, Rest, Put, Shift, Free, Begin, Hold, Pick, Gone, Make, Call, Come, Lend, Copy, Claim, Finish, Back, Close}
use Rattle.dd_machine.specs.declared.task_state.TaskState.{TaskState}
use Rattle.dd_machine.specs.declared.task_state.TaskState.TheVariants.{Held, Running, Done}
use Rattle.dd_machine.specs.Effects.{after, fresh, given_back, in_state, on_outside, order_front}
use Rattle.dd_machine.specs.Legal.{May, MayFetch}
use Rattle.dd_machine.specs.Sound.{IsSound}
use Rattle.dd_machine.specs.States as states
use Rattle.dd_machine.specs.States.{Progress, State, at_copy, at_one}
use Rattle.dd_machine.specs.Tests.{is_here, is_in_state}
use Rattle.dd_machine.specs.Words.{IsOneOf, place}
use Rattle.dd_machine.proofs.ChangesLemmas.{at_copy_other, at_one_other, at_one_tells}
use Rattle.dd_machine.proofs.TestsLemmas.{pin_of, rested_at}
use Rattle.dd_machine.specs.Bytes.{is_lent_into, resident}
use Rattle.dd_machine.specs.Effects.{after_copy}
use Rattle.dd_machine.specs.Legal.{Fits, MayLend}
use Rattle.dd_machine.specs.Needed.{own_space}
use Rattle.dd_machine.specs.Tests.{is_coming, is_held, is_lent, is_pin_on, is_running}
use Rattle.dd_machine.specs.Words.{argument_bytes, bytes, limit, spaces}
use Rattle.dd_machine.proofs.TestsLemmas.{none_in_state, one_of_two, passed_at, passed_copied, passed_other, state_finished}
use Rattle.laws_of_limits.proofs.RoomLemmas.{HeldBefore, RanBefore, no_more, one_copy_more, one_lend_more, one_run_elsewhere, one_run_more}
use Rattle.laws_of_limits.proofs.OrdersKept.{victim_there}

abbrev Within : Plan → State → Type 0
Within plan st = (s : ℕ) → IsOneOf (spaces plan) s → resident plan st s ≤ limit plan s

below : (a b c : ℕ) → a ≤ b → b ≤ c → a ≤ c
below a b c h k = omega arith

-- ---- lends

lent_if : (p q : ℕ → Bool) → ((t : ℕ) → p t ≡ true → q t ≡ true) → (c : Option states.Copy) → is_in_state (is_lent p) c ≡ true → is_in_state (is_lent q) c ≡ true
lent_if p q h None e = cc
lent_if p q h (Some c) e = by c.state e
  where
    by : (s : CopyState) → is_lent p s ≡ true → is_lent q s ≡ true
    by state.Here e = cc
    by state.Leaving e = cc
    by state.Out e = cc
    by state.Coming e = cc
    by (state.Lent t) e = h t e

-- only for a lend to 0 does the pin count
lent_or_zero : (plan : Plan) (st new : State) (s : ℕ) (c : Option states.Copy) → is_in_state (is_lent (is_lent_into plan new s)) c ≡ true
    → (is_in_state (is_lent (λ t. eqb t 0)) c ≡ true) ⊎ (is_in_state (is_lent (is_lent_into plan st s)) c ≡ true)
lent_or_zero plan st new s None e = absurd cc
lent_or_zero plan st new s (Some c) e = by c.state e
  where
    by : (x : CopyState) → is_lent (is_lent_into plan new s) x ≡ true → (is_lent (λ t. eqb t 0) x ≡ true) ⊎ (is_lent (is_lent_into plan st s) x ≡ true)
    by state.Here e = absurd cc
    by state.Leaving e = absurd cc
    by state.Out e = absurd cc
    by state.Coming e = absurd cc
    by (state.Lent t) e = ⊎_elim
        (λ (z : (eqb t 0 ≡ true) × (t ≡ 0)). inl z.0)
        (λ (z : (eqb t 0 ≡ false) × (t ≢ 0)). inr (ap (λ (b : Bool). cond b (is_pin_on st.pin s) (eqb (place plan t) s)) z.0 ∙ sym (ap (λ (b : Bool). cond b (is_pin_on new.pin s) (eqb (place plan t) s)) z.0) ∙ e))
        (eqb_tells t 0)

into_no_pin : (plan : Plan) (st new : State) (s t : ℕ) → new.pin ≡ None → is_lent_into plan new s t ≡ true → is_lent_into plan st s t ≡ true
into_no_pin plan st new s t none e = ⊎_elim
    (λ (z : (eqb t 0 ≡ true) × (t ≡ 0)).
    absurd (let h : true ≡ false = sym e ∙ ap (λ (b : Bool). cond b (is_pin_on new.pin s) (eqb (place plan t) s)) z.0 ∙ ap (λ (p : Option (ℕ × ℕ)). is_pin_on p s) none in cc))
    (λ (z : (eqb t 0 ≡ false) × (t ≢ 0)). ap (λ (b : Bool). cond b (is_pin_on st.pin s) (eqb (place plan t) s)) z.0 ∙ sym (ap (λ (b : Bool). cond b (is_pin_on new.pin s) (eqb (place plan t) s)) z.0) ∙ e)
    (eqb_tells t 0)

-- ---- one copy

-- a change of one copy that holds no more and is lent no more
within_same : (plan : Plan) (st : State) (space block : ℕ) (copy : Option states.Copy) → Within plan st → (is_in_state is_held copy ≡ true → is_in_state is_held (st.copies space block) ≡ true)
    → ((p : ℕ → Bool) → is_in_state (is_lent p) copy ≡ true → is_in_state (is_lent p) (st.copies space block) ≡ true) → Within plan (record st { copies = at_copy st.copies space block copy })
within_same plan st space block copy within held lent s is =
    below (resident plan (record st { copies = at_copy st.copies space block copy }) s) (resident plan st s) (limit plan s)
    (no_more plan st (record st { copies = at_copy st.copies space block copy }) s
    (λ b. passed_at is_held st.copies space block copy held s b)
    (λ x b. passed_at (is_lent (is_lent_into plan st s)) st.copies space block copy (lent (is_lent_into plan st s)) x b)
    (λ t ran. ran))
    (within s is)

-- one that may hold its block, which fits
within_more : (plan : Plan) (st : State) (space block : ℕ) (copy : Option states.Copy) → Within plan st → Fits plan st space (bytes plan block)
    → ((p : ℕ → Bool) → is_in_state (is_lent p) copy ≡ true → is_in_state (is_lent p) (st.copies space block) ≡ true) → Within plan (record st { copies = at_copy st.copies space block copy })
within_more plan st space block copy within fits lent s is = ⊎_elim
    (λ (e : s ≡ space).
    below (resident plan (record st { copies = at_copy st.copies space block copy }) s) (resident plan st s + bytes plan block) (limit plan s)
    (one_copy_more plan st (record st { copies = at_copy st.copies space block copy }) s block
    (λ b ne held. ap (is_in_state is_held) (sym (at_copy_other st.copies space block copy s b (λ same other. ne other))) ∙ held)
    (λ x b. passed_at (is_lent (is_lent_into plan st s)) st.copies space block copy (lent (is_lent_into plan st s)) x b)
    (λ t ran. ran))
    (subst (λ (x : ℕ). resident plan st x + bytes plan block ≤ limit plan x) (sym e) fits))
    (λ (e : s ≡ space → ⊥).
    below (resident plan (record st { copies = at_copy st.copies space block copy }) s) (resident plan st s) (limit plan s)
    (no_more plan st (record st { copies = at_copy st.copies space block copy }) s
    (λ b held. ap (is_in_state is_held) (sym (at_copy_other st.copies space block copy s b (λ same other. e same))) ∙ held)
    (λ x b. passed_at (is_lent (is_lent_into plan st s)) st.copies space block copy (lent (is_lent_into plan st s)) x b)
    (λ t ran. ran))
    (within s is))
    (cases_eq s space)

never : {A : Type 0} (b : Bool) → b ≡ false → b ≡ true → A
never b f t = absurd (let h : true ≡ false = sym t ∙ f in cc)

-- a copy in a state that isn't lent
not_lent_in : (new : CopyState) (c : Option states.Copy) → ((p : ℕ → Bool) → is_lent p new ≡ false) → (p : ℕ → Bool) (old : Option states.Copy) → is_in_state (is_lent p) (in_state new c) ≡ true → is_in_state (is_lent p) old ≡ true
not_lent_in new c none p old = never (is_in_state (is_lent p) (in_state new c)) (none_in_state (is_lent p) new c (none p))

-- a copy that changes to a state held where it was held
held_in : (test : CopyState → Bool) (new : CopyState) (c : Option states.Copy) → ((s : CopyState) → test s ≡ true → is_held s ≡ true) → is_in_state test c ≡ true → is_in_state is_held (in_state new c) ≡ true → is_in_state is_held c ≡ true
held_in test new c only old h = one_of_two test is_held only c old

held_given : (c : Option states.Copy) → is_in_state is_held (given_back c) ≡ true → is_in_state is_held c ≡ true
held_given None e = cc
held_given (Some c) e = by c.state e
  where
    by : (s : CopyState) → is_in_state is_held (given_back (Some (record { state = s; versions = c.versions }))) ≡ true → is_held s ≡ true
    by state.Here e = refl
    by state.Leaving e = refl
    by state.Out e = cc
    by state.Coming e = refl
    by (state.Lent t) e = cc

pub lent_given : (p : ℕ → Bool) (c : Option states.Copy) → is_in_state (is_lent p) (given_back c) ≡ false
lent_given p None = refl
lent_given p (Some c) = by c.state
  where
    by : (s : CopyState) → is_in_state (is_lent p) (given_back (Some (record { state = s; versions = c.versions }))) ≡ false
    by state.Here = refl
    by state.Leaving = refl
    by state.Out = refl
    by state.Coming = refl
    by (state.Lent t) = refl

within_copied : (plan : Plan) (st : State) (task block from count : ℕ) → Within plan st → Within plan (after_copy plan st task block from count)
within_copied plan st task block from count within s is =
    below (resident plan (after_copy plan st task block from count) s) (resident plan st s) (limit plan s)
    (no_more plan st (after_copy plan st task block from count) s
    (λ b. passed_copied plan st task block from count is_held (held_given (st.copies from block)) s b)
    (λ x b. passed_copied plan st task block from count (is_lent (is_lent_into plan st s)) (never (is_in_state (is_lent (is_lent_into plan st s)) (given_back (st.copies from block))) (lent_given (is_lent_into plan st s) (st.copies from block))) x b)
    (λ t ran. ran))
    (within s is)

-- a lend is counted where its task is placed, or where the pin is
into_own : (plan : Plan) (st : State) (task block s : ℕ) → MayFetch st task block → is_lent_into plan st s task ≡ true → own_space plan st task block ≡ s
into_own plan st zero block s may into = eqb-true (st.homes block) s (sym (ap (λ (p : Option (ℕ × ℕ)). is_pin_on p s) may.1) ∙ into)
into_own plan st (suc t) block s may into =
    ap (λ (b : Bool). cond b (st.homes block) (place plan (suc t))) (ne_eqb (suc t) 0 (λ e. omega (arith, e)))
    ∙ eqb-true (place plan (suc t)) s (sym (ap (λ (b : Bool). cond b (is_pin_on st.pin s) (eqb (place plan (suc t)) s)) (ne_eqb (suc t) 0 (λ e. omega (arith, e)))) ∙ into)

within_lend : (plan : Plan) (st : State) (task block source : ℕ) → Within plan st → MayLend plan st task block source → Within plan (record st { copies = at_copy st.copies source block (in_state (state.Lent task) (st.copies source block)) })
within_lend plan st task block source within may s is = ⊎_elim
    (λ (e : own_space plan st task block ≡ s).
    below (resident plan new s) (resident plan st s + bytes plan block) (limit plan s)
    (one_lend_more plan st new s source block (held s) (λ x b ne lent. ap (is_in_state (is_lent (is_lent_into plan st s))) (sym (at_copy_other st.copies source block copy x b ne)) ∙ lent) (λ t ran. ran))
    (subst (λ (x : ℕ). resident plan st x + bytes plan block ≤ limit plan x) e may.fits))
    (λ (e : own_space plan st task block ≡ s → ⊥).
    below (resident plan new s) (resident plan st s) (limit plan s)
    (no_more plan st new s (held s) (λ x b. passed_other (is_lent (is_lent_into plan st s)) st.copies source block copy (away s e) x b) (λ t ran. ran))
    (within s is))
    (cases_eq (own_space plan st task block) s)
  where
    copy : Option states.Copy
    copy = in_state (state.Lent task) (st.copies source block)

    new : State
    new = record st { copies = at_copy st.copies source block copy }

    held : (s b : ℕ) → HeldBefore st new s b
    held s b = passed_other is_held st.copies source block copy (none_in_state is_held (state.Lent task) (st.copies source block) refl) s b

    away : (s : ℕ) → (own_space plan st task block ≡ s → ⊥) → is_in_state (is_lent (is_lent_into plan st s)) copy ≡ false
    away s ne = none_in_state (is_lent (is_lent_into plan st s)) (state.Lent task) (st.copies source block) (false_from_ne_true (is_lent_into plan st s task) (λ into. ne (into_own plan st task block s may.asked into)))

-- ---- one task

ran_at : (st : State) (task : ℕ) (new : TaskState) → is_running new ≡ false → (t : ℕ) → RanBefore st (record st { tasks = at_one st.tasks task new }) t
ran_at st task new none t ran = ⊎_elim
    (λ (e : (t ≡ task) × (at_one st.tasks task new t ≡ new)). never (is_running (at_one st.tasks task new t)) (ap is_running e.1 ∙ none) ran)
    (λ (e : (t ≢ task) × (at_one st.tasks task new t ≡ st.tasks t)). ap is_running (sym e.1) ∙ ran)
    (at_one_tells st.tasks task new t)

pub keeps_within : (plan : Plan) (st : State) (event : Event) → IsSound plan st → May plan st event → Within plan (after plan st event)
keeps_within plan st (Ask space block) sound may = λ s is.
    below (resident plan (after plan st (Ask space block)) s) (resident plan st s) (limit plan s)
    (no_more plan st (after plan st (Ask space block)) s (λ b held. held)
    (λ x b lent. ⊎_elim
    (λ (zero_lent : is_in_state (is_lent (λ t. eqb t 0)) (st.copies x b) ≡ true). absurd (let p = (sound.limits.lends_pinned x b zero_lent).0 in let n = may.no_pin in let h : None ≡ Some (st.homes b, b) = sym n ∙ p in cc))
    (λ (old : is_in_state (is_lent (is_lent_into plan st s)) (st.copies x b) ≡ true). old)
    (lent_or_zero plan st (after plan st (Ask space block)) s (st.copies x b) lent))
    (λ t ran. ran))
    (sound.limits.within s is)
keeps_within plan st Rest sound may = subst (Within plan) (sym (rested_at plan st may)) (λ s is.
    let new : State = record st { pin = None; progress = on_outside plan st; orders = order_front st.orders (pin_of plan st may).0 (pin_of plan st may).1 } in
    below (resident plan new s) (resident plan st s) (limit plan s)
    (no_more plan st new s (λ b held. held) (λ x b. lent_if (is_lent_into plan new s) (is_lent_into plan st s) (λ t. into_no_pin plan st new s t refl) (st.copies x b)) (λ t ran. ran))
    (sound.limits.within s is))
keeps_within plan st (Put block) sound may = within_more plan st (st.homes block) block (fresh plan block 0) sound.limits.within may.fits (λ p lent. absurd cc)
keeps_within plan st (Shift block space) sound may = within_more plan cleared space block moved within
    (below (resident plan cleared space + bytes plan block) (resident plan st space + bytes plan block) (limit plan space) (omega (arith, less space)) may.fits)
    (λ p. not_lent_in state.Here (st.copies (st.homes block) block) (λ q. refl) p (cleared.copies space block))
  where
    cleared : State
    cleared = record st { copies = at_copy st.copies (st.homes block) block None }

    moved : Option states.Copy
    moved = in_state state.Here (st.copies (st.homes block) block)

    within : Within plan cleared
    within = within_same plan st (st.homes block) block None sound.limits.within (λ e. absurd cc) (λ p e. absurd cc)

    less : (s : ℕ) → resident plan cleared s ≤ resident plan st s
    less s = no_more plan st cleared s
        (λ b. passed_other is_held st.copies (st.homes block) block None refl s b)
        (λ x b. passed_other (is_lent (is_lent_into plan st s)) st.copies (st.homes block) block None refl x b)
        (λ t ran. ran)
keeps_within plan st (Free space block) sound may = within_same plan st space block None sound.limits.within (λ e. absurd cc) (λ p e. absurd cc)
keeps_within plan st (Begin r) sound may = sound.limits.within
keeps_within plan st (Close r) sound may = sound.limits.within
keeps_within plan st (Hold task) sound may = λ s is.
    below (resident plan (after plan st (Hold task)) s) (resident plan st s) (limit plan s)
    (no_more plan st (after plan st (Hold task)) s (λ b held. held) (λ x b lent. lent) (ran_at st task Held refl))
    (sound.limits.within s is)
keeps_within plan st (Pick space block) sound may = within_same plan st space block (in_state state.Leaving (st.copies space block)) sound.limits.within
    (λ e. one_of_two is_here is_held here_held (st.copies space block) (sound.limits.order_here space block (victim_there plan st space block may.is_victim).0))
    (λ p. not_lent_in state.Leaving (st.copies space block) (λ q. refl) p (st.copies space block))
  where
    here_held : (s : CopyState) → is_here s ≡ true → is_held s ≡ true
    here_held state.Here e = refl
    here_held _ e = cc
keeps_within plan st (Gone space block) sound may = within_same plan st space block (in_state state.Out (st.copies space block)) sound.limits.within
    (never (is_in_state is_held (in_state state.Out (st.copies space block))) (none_in_state is_held state.Out (st.copies space block) refl))
    (λ p. not_lent_in state.Out (st.copies space block) (λ q. refl) p (st.copies space block))
keeps_within plan st (Make task block) sound may = within_more plan st (place plan task) block (fresh plan block states.blank) sound.limits.within may.fits (λ p lent. absurd cc)
keeps_within plan st (Call space block) sound may = within_more plan st space block (in_state state.Coming (st.copies space block)) sound.limits.within may.fits
    (λ p. not_lent_in state.Coming (st.copies space block) (λ q. refl) p (st.copies space block))
keeps_within plan st (Come space block) sound may = within_same plan st space block (in_state state.Here (st.copies space block)) sound.limits.within
    (λ e. one_of_two is_coming is_held coming_held (st.copies space block) may.coming)
    (λ p. not_lent_in state.Here (st.copies space block) (λ q. refl) p (st.copies space block))
  where
    coming_held : (s : CopyState) → is_coming s ≡ true → is_held s ≡ true
    coming_held state.Coming e = refl
    coming_held _ e = cc
keeps_within plan st (Lend task block source) sound may = within_lend plan st task block source sound.limits.within may
keeps_within plan st (Copy task block source count) sound may = within_copied plan st task block source count sound.limits.within
keeps_within plan st (Claim task worker) sound may = λ s is. ⊎_elim
    (λ (e : place plan task ≡ s).
    below (resident plan (after plan st (Claim task worker)) s) (resident plan st s + argument_bytes plan task) (limit plan s)
    (one_run_more plan st (after plan st (Claim task worker)) s task (λ b held. held) (λ x b lent. lent) (λ t ne ran. ap is_running (sym (at_one_other st.tasks task (Running worker) t ne)) ∙ ran))
    (subst (λ (x : ℕ). resident plan st x + argument_bytes plan task ≤ limit plan x) e may.fits))
    (λ (e : place plan task ≡ s → ⊥).
    below (resident plan (after plan st (Claim task worker)) s) (resident plan st s) (limit plan s)
    (one_run_elsewhere plan st (after plan st (Claim task worker)) s task e (λ b held. held) (λ x b lent. lent) (λ t ne ran. ap is_running (sym (at_one_other st.tasks task (Running worker) t ne)) ∙ ran))
    (sound.limits.within s is))
    (cases_eq (place plan task) s)
keeps_within plan st (Finish task) sound may = λ s is.
    below (resident plan (after plan st (Finish task)) s) (resident plan st s) (limit plan s)
    (no_more plan st (after plan st (Finish task)) s
    (λ b held. sym (state_finished plan st task s b is_held) ∙ held)
    (λ x b lent. sym (state_finished plan st task x b (is_lent (is_lent_into plan st s))) ∙ lent)
    (ran_at st task Done refl))
    (sound.limits.within s is)
keeps_within plan st (Back block source count) sound may = within_copied plan st 0 block source count sound.limits.within
