-- Which tasks are at work, and where the pin is in an open region.
use Rattle.std.proofs.Common.{◌≡◌, ◌≢◌, ℕ, true, false, Option, Some, None, refl, ap, sym, ◌∙◌, subst, ⊎_elim}
use Rattle.std.proofs.lemmas.Bool.{cases_eq}
use Rattle.dd_blocks.specs.declared.plan.Plan.{Plan}
use Rattle.dd_machine.specs.declared.event.Event.{Event}
use Rattle.dd_machine.specs.declared.event.Event.TheVariants.{Ask, Rest, Put, Shift, Free, Begin, Hold, Pick, Gone, Make, Call, Come, Lend, Copy, Claim, Finish, Back, Close}
use Rattle.dd_machine.specs.declared.task_state.TaskState.{TaskState}
use Rattle.dd_machine.specs.declared.task_state.TaskState.TheVariants.{Waiting, Held, Running, Done}
use Rattle.dd_machine.specs.Effects.{after}
use Rattle.dd_machine.specs.Legal.{May}
use Rattle.dd_machine.specs.Sound.{IsSound}
use Rattle.dd_machine.specs.States.{State, at_one}
use Rattle.dd_machine.specs.Words.{IsOf, IsOneOf}
use Rattle.dd_machine.proofs.ChangesLemmas.{at_one_other, at_one_tells}
use Rattle.dd_machine.proofs.TestsLemmas.{hold_open, pair_same, rested_at, running_by}
use Rattle.dd_machine.specs.Legal.{AllDone}
use Rattle.dd_machine.specs.Tests.{is_active}
use Rattle.dd_machine.specs.Words.{blocks, proc_of, spaces}

-- what is none isn't some, and what is some in the same way is the same
pub out_or_in : {A B : Type 0} {x : A} {o : Option A} → o ≡ None → o ≡ Some x → B
out_or_in out is = absurd (let h : None ≡ Some _ = sym out ∙ is in cc)

pub same_some : {A : Type 0} (x y : A) (o : Option A) → o ≡ Some x → o ≡ Some y → x ≡ y
same_some x y o a b = let h : Some x ≡ Some y = sym a ∙ b in cc

abbrev ActiveOpen : Plan → State → Type 0
ActiveOpen plan st = (t : ℕ) → is_active (st.tasks t) ≡ true → (r : ℕ) × (st.region ≡ Some r) × IsOf plan r t

pub keeps_active_open : (plan : Plan) (st : State) (event : Event) → IsSound plan st → May plan st event → ActiveOpen plan (after plan st event)
keeps_active_open plan st (Ask space block) sound may = sound.limits.active_open
keeps_active_open plan st Rest sound may = subst (ActiveOpen plan) (sym (rested_at plan st may)) sound.limits.active_open
keeps_active_open plan st (Put block) sound may = sound.limits.active_open
keeps_active_open plan st (Shift block space) sound may = sound.limits.active_open
keeps_active_open plan st (Free space block) sound may = sound.limits.active_open
keeps_active_open plan st (Begin r) sound may = λ t on. let o = sound.limits.active_open t on in out_or_in may.outside o.1
keeps_active_open plan st (Close r) sound may = λ t on.
    let o = sound.limits.active_open t on in
    let done : st.tasks t ≡ Done = may.all_done t (subst (λ (x : ℕ). IsOf plan x t) (same_some o.0 r st.region o.1 may.open_is) o.2) in
    absurd (let h : true ≡ false = sym on ∙ ap is_active done in cc)
keeps_active_open plan st (Hold task) sound may = λ t on. ⊎_elim
    (λ (e : (t ≡ task) × (at_one st.tasks task Held t ≡ Held)). let o = (hold_open plan st task may) in (o.0, o.1, subst (IsOf plan o.0) (sym e.0) o.2))
    (λ (e : (t ≢ task) × (at_one st.tasks task Held t ≡ st.tasks t)). sound.limits.active_open t (ap is_active (sym e.1) ∙ on))
    (at_one_tells st.tasks task Held t)
keeps_active_open plan st (Claim task worker) sound may = λ t on. ⊎_elim
    (λ (e : (t ≡ task) × (at_one st.tasks task (Running worker) t ≡ Running worker)). sound.limits.active_open t (ap (λ (x : ℕ). is_active (st.tasks x)) e.0 ∙ ap is_active may.held))
    (λ (e : (t ≢ task) × (at_one st.tasks task (Running worker) t ≡ st.tasks t)). sound.limits.active_open t (ap is_active (sym e.1) ∙ on))
    (at_one_tells st.tasks task (Running worker) t)
keeps_active_open plan st (Finish task) sound may = λ t on. ⊎_elim
    (λ (e : (t ≡ task) × (at_one st.tasks task Done t ≡ Done)). absurd (let h : true ≡ false = sym on ∙ ap is_active e.1 in cc))
    (λ (e : (t ≢ task) × (at_one st.tasks task Done t ≡ st.tasks t)). sound.limits.active_open t (ap is_active (sym e.1) ∙ on))
    (at_one_tells st.tasks task Done t)
keeps_active_open plan st (Pick space block) sound may = sound.limits.active_open
keeps_active_open plan st (Gone space block) sound may = sound.limits.active_open
keeps_active_open plan st (Make task block) sound may = sound.limits.active_open
keeps_active_open plan st (Call space block) sound may = sound.limits.active_open
keeps_active_open plan st (Come space block) sound may = sound.limits.active_open
keeps_active_open plan st (Lend task block source) sound may = sound.limits.active_open
keeps_active_open plan st (Copy task block source count) sound may = sound.limits.active_open
keeps_active_open plan st (Back block source count) sound may = sound.limits.active_open

abbrev OneEach : Plan → State → Type 0
OneEach plan st = (t u : ℕ) → is_active (st.tasks t) ≡ true → is_active (st.tasks u) ≡ true → proc_of plan t ≡ proc_of plan u → t ≡ u

-- where no task becomes active
one_each_of : (plan : Plan) (st : State) (task : ℕ) (new : TaskState) → IsSound plan st → (is_active new ≡ true → is_active (st.tasks task) ≡ true) → OneEach plan (record st { tasks = at_one st.tasks task new })
one_each_of plan st task new sound was t u on_t on_u same = sound.limits.one_each t u (old t on_t) (old u on_u) same
  where
    old : (x : ℕ) → is_active (at_one st.tasks task new x) ≡ true → is_active (st.tasks x) ≡ true
    old x on = ⊎_elim
        (λ (e : (x ≡ task) × (at_one st.tasks task new x ≡ new)). ap (λ (y : ℕ). is_active (st.tasks y)) e.0 ∙ was (ap is_active (sym e.1) ∙ on))
        (λ (e : (x ≢ task) × (at_one st.tasks task new x ≡ st.tasks x)). ap is_active (sym e.1) ∙ on)
        (at_one_tells st.tasks task new x)

pub keeps_one_each : (plan : Plan) (st : State) (event : Event) → IsSound plan st → May plan st event → OneEach plan (after plan st event)
keeps_one_each plan st (Hold task) sound may = λ t u on_t on_u same. ⊎_elim
    (λ (e : t ≡ task). ⊎_elim
    (λ (f : u ≡ task). e ∙ sym f)
    (λ (f : u ≡ task → ⊥). absurd (free u (ap is_active (sym (at_one_other st.tasks task Held u f)) ∙ on_u) (sym same ∙ ap (proc_of plan) e)))
    (cases_eq u task))
    (λ (e : t ≡ task → ⊥). ⊎_elim
    (λ (f : u ≡ task). absurd (free t (ap is_active (sym (at_one_other st.tasks task Held t e)) ∙ on_t) (same ∙ ap (proc_of plan) f)))
    (λ (f : u ≡ task → ⊥). sound.limits.one_each t u (ap is_active (sym (at_one_other st.tasks task Held t e)) ∙ on_t) (ap is_active (sym (at_one_other st.tasks task Held u f)) ∙ on_u) same)
    (cases_eq u task))
    (cases_eq t task)
  where
    free : (x : ℕ) → is_active (st.tasks x) ≡ true → proc_of plan x ≡ proc_of plan task → ⊥
    free x on same = let o = sound.limits.active_open x on in let h : true ≡ false = sym on ∙ may.alone x o.2.0 same in cc
keeps_one_each plan st (Claim task worker) sound may = one_each_of plan st task (Running worker) sound (λ on. ap is_active may.held)
keeps_one_each plan st (Finish task) sound may = one_each_of plan st task Done sound (λ on. absurd cc)
keeps_one_each plan st Rest sound may = subst (OneEach plan) (sym (rested_at plan st may)) sound.limits.one_each
keeps_one_each plan st (Ask space block) sound may = sound.limits.one_each
keeps_one_each plan st (Put block) sound may = sound.limits.one_each
keeps_one_each plan st (Shift block space) sound may = sound.limits.one_each
keeps_one_each plan st (Free space block) sound may = sound.limits.one_each
keeps_one_each plan st (Begin r) sound may = sound.limits.one_each
keeps_one_each plan st (Close r) sound may = sound.limits.one_each
keeps_one_each plan st (Pick space block) sound may = sound.limits.one_each
keeps_one_each plan st (Gone space block) sound may = sound.limits.one_each
keeps_one_each plan st (Make task block) sound may = sound.limits.one_each
keeps_one_each plan st (Call space block) sound may = sound.limits.one_each
keeps_one_each plan st (Come space block) sound may = sound.limits.one_each
keeps_one_each plan st (Lend task block source) sound may = sound.limits.one_each
keeps_one_each plan st (Copy task block source count) sound may = sound.limits.one_each
keeps_one_each plan st (Back block source count) sound may = sound.limits.one_each

abbrev PinCalm : Plan → State → Type 0
PinCalm plan st = (r : ℕ) → st.region ≡ Some r → st.pin ≢ None → AllDone plan st r

-- with a pin no task of the region is in another state
pub pin_done : (plan : Plan) (st : State) (r t : ℕ) (s : TaskState) → IsSound plan st → st.region ≡ Some r → st.pin ≢ None → IsOf plan r t → st.tasks t ≡ s → s ≡ Done
pin_done plan st r t s sound open_in pin of is = sym is ∙ sound.limits.pin_calm r open_in pin t of

pub keeps_pin_calm : (plan : Plan) (st : State) (event : Event) → IsSound plan st → May plan st event → PinCalm plan (after plan st event)
keeps_pin_calm plan st (Ask space block) sound may = λ r open_in pin. may.all_done r open_in
keeps_pin_calm plan st Rest sound may = subst (PinCalm plan) (sym (rested_at plan st may)) (λ r open_in pin. absurd (pin refl))
keeps_pin_calm plan st (Begin region) sound may = λ r open_in pin. absurd (pin may.no_pin)
keeps_pin_calm plan st (Close region) sound may = λ r open_in. absurd cc
keeps_pin_calm plan st (Hold task) sound may = λ r open_in pin. absurd
    (let o = (hold_open plan st task may) in let h : Waiting ≡ Done = pin_done plan st o.0 task Waiting sound o.1 pin o.2 may.waiting in cc)
keeps_pin_calm plan st (Claim task worker) sound may = λ r open_in pin. absurd
    (let o = sound.limits.active_open task (ap is_active may.held) in let h : Held ≡ Done = pin_done plan st o.0 task Held sound o.1 pin o.2 may.held in cc)
keeps_pin_calm plan st (Finish task) sound may = λ r open_in pin. absurd
    (let o = sound.limits.active_open task (ap is_active (running_by (st.tasks task) may).1) in let h : Running (running_by (st.tasks task) may).0 ≡ Done = pin_done plan st o.0 task (Running (running_by (st.tasks task) may).0) sound o.1 pin o.2 (running_by (st.tasks task) may).1 in cc)
keeps_pin_calm plan st (Put block) sound may = sound.limits.pin_calm
keeps_pin_calm plan st (Shift block space) sound may = sound.limits.pin_calm
keeps_pin_calm plan st (Free space block) sound may = sound.limits.pin_calm
keeps_pin_calm plan st (Pick space block) sound may = sound.limits.pin_calm
keeps_pin_calm plan st (Gone space block) sound may = sound.limits.pin_calm
keeps_pin_calm plan st (Make task block) sound may = sound.limits.pin_calm
keeps_pin_calm plan st (Call space block) sound may = sound.limits.pin_calm
keeps_pin_calm plan st (Come space block) sound may = sound.limits.pin_calm
keeps_pin_calm plan st (Lend task block source) sound may = sound.limits.pin_calm
keeps_pin_calm plan st (Copy task block source count) sound may = sound.limits.pin_calm
keeps_pin_calm plan st (Back block source count) sound may = sound.limits.pin_calm

abbrev PinHome : State → Type 0
PinHome st = (r s b : ℕ) → st.region ≡ Some r → st.pin ≡ Some (s, b) → st.homes b ≡ s

pub keeps_pin_home : (plan : Plan) (st : State) (event : Event) → IsSound plan st → May plan st event → PinHome (after plan st event)
keeps_pin_home plan st (Ask space block) sound may = λ r s b open_in pin. let p = pair_same space s block b pin in ap st.homes (sym p.1) ∙ may.home r open_in ∙ p.0
keeps_pin_home plan st Rest sound may = subst PinHome (sym (rested_at plan st may)) (λ r s b open_in pin. absurd cc)
keeps_pin_home plan st (Shift block space) sound may = λ r s b open_in pin. out_or_in may.outside open_in
keeps_pin_home plan st (Begin region) sound may = λ r s b open_in pin. out_or_in may.no_pin pin
keeps_pin_home plan st (Close region) sound may = λ r s b open_in. absurd cc
keeps_pin_home plan st (Put block) sound may = sound.limits.pin_home
keeps_pin_home plan st (Free space block) sound may = sound.limits.pin_home
keeps_pin_home plan st (Hold task) sound may = sound.limits.pin_home
keeps_pin_home plan st (Pick space block) sound may = sound.limits.pin_home
keeps_pin_home plan st (Gone space block) sound may = sound.limits.pin_home
keeps_pin_home plan st (Make task block) sound may = sound.limits.pin_home
keeps_pin_home plan st (Call space block) sound may = sound.limits.pin_home
keeps_pin_home plan st (Come space block) sound may = sound.limits.pin_home
keeps_pin_home plan st (Lend task block source) sound may = sound.limits.pin_home
keeps_pin_home plan st (Copy task block source count) sound may = sound.limits.pin_home
keeps_pin_home plan st (Claim task worker) sound may = sound.limits.pin_home
keeps_pin_home plan st (Finish task) sound may = sound.limits.pin_home
keeps_pin_home plan st (Back block source count) sound may = sound.limits.pin_home

abbrev PinKnown : Plan → State → Type 0
PinKnown plan st = (s b : ℕ) → st.pin ≡ Some (s, b) → IsOneOf (spaces plan) s × IsOneOf (blocks plan) b

pub keeps_pin_known : (plan : Plan) (st : State) (event : Event) → IsSound plan st → May plan st event → PinKnown plan (after plan st event)
keeps_pin_known plan st (Ask space block) sound may = λ s b pin. let p = pair_same space s block b pin in (subst (IsOneOf (spaces plan)) p.0 may.space_is, subst (IsOneOf (blocks plan)) p.1 may.block_is)
keeps_pin_known plan st Rest sound may = subst (PinKnown plan) (sym (rested_at plan st may)) (λ s b pin. absurd cc)
keeps_pin_known plan st (Put block) sound may = sound.limits.pin_known
keeps_pin_known plan st (Shift block space) sound may = sound.limits.pin_known
keeps_pin_known plan st (Free space block) sound may = sound.limits.pin_known
keeps_pin_known plan st (Begin r) sound may = sound.limits.pin_known
keeps_pin_known plan st (Close r) sound may = sound.limits.pin_known
keeps_pin_known plan st (Hold task) sound may = sound.limits.pin_known
keeps_pin_known plan st (Pick space block) sound may = sound.limits.pin_known
keeps_pin_known plan st (Gone space block) sound may = sound.limits.pin_known
keeps_pin_known plan st (Make task block) sound may = sound.limits.pin_known
keeps_pin_known plan st (Call space block) sound may = sound.limits.pin_known
keeps_pin_known plan st (Come space block) sound may = sound.limits.pin_known
keeps_pin_known plan st (Lend task block source) sound may = sound.limits.pin_known
keeps_pin_known plan st (Copy task block source count) sound may = sound.limits.pin_known
keeps_pin_known plan st (Claim task worker) sound may = sound.limits.pin_known
keeps_pin_known plan st (Finish task) sound may = sound.limits.pin_known
keeps_pin_known plan st (Back block source count) sound may = sound.limits.pin_known
