-- The tasks of regions that began, of closed ones, and those that wrote the current versions; and what pins a Coming copy.
use Rattle.std.proofs.Common.{◌≡◌, ◌≢◌, ℕ, Bool, true, false, cond, ◌||◌, ◌&&◌, eqb, List, [], ◌∷◌, Option, Some, None, refl, ap, sym, ◌∙◌, subst, ⊎_elim}
use Rattle.std.specs.List.{list_any, range_with_len}
use Rattle.std.proofs.lemmas.Bool.{eqb-true, and_from, and_parts, or_cases, or_left, or_right}
use Rattle.dd_blocks.specs.Elements.{Element}
use Rattle.dd_blocks.specs.declared.plan.Plan.{Plan}
use Rattle.dd_blocks.specs.Numbered.{task_row}
use Rattle.dd_machine.specs.declared.copy_state.CopyState.{CopyState}
use Rattle.dd_machine.specs.declared.copy_state.CopyState.TheVariants as state
use Rattle.dd_machine.specs.declared.event.Event.{Event}
use Rattle.dd_machine.specs.declared.event.Event.TheVariants.{Ask, Rest, Put, Shift, Free, Begin, Hold, Pick, Gone, Make, Call, Come, Lend, Copy, Claim, Finish, Back, Close}
use Rattle.dd_machine.specs.declared.task_state.TaskState.{TaskState}
use Rattle.dd_machine.specs.declared.task_state.TaskState.TheVariants.{Held, Running, Done}
use Rattle.dd_machine.specs.Effects.{after, fresh, given_back, in_state, on_outside}
use Rattle.dd_machine.specs.Legal.{IsNext, May}
use Rattle.dd_machine.specs.Made.{close_of, was_begun, was_closed}
use Rattle.dd_machine.specs.Owed.{made, one_more}
use Rattle.dd_machine.specs.Sound.{IsSound}
use Rattle.dd_machine.specs.States as states
use Rattle.dd_machine.specs.States.{Progress, State, at_copy, at_one}
use Rattle.dd_machine.specs.Tests.{Has, is_here, is_in_state}
use Rattle.dd_machine.specs.Words.{IsOneOf, place, tasks, touches, writes}
use Rattle.dd_machine.proofs.ChangesLemmas.{at_copy_tells, at_one_other, at_one_same, at_one_tells}
use Rattle.dd_machine.proofs.ProgressLemmas.{makes_next}
use Rattle.dd_machine.proofs.TestsLemmas.{hold_open, pin_of, rested_at, running_by, same_at}
use Rattle.dd_machine.specs.Bytes.{is_pinned, is_used}
use Rattle.dd_machine.specs.Effects.{after_copy, copy_where, finish_copy}
use Rattle.dd_machine.specs.Needed.{is_needed, own_space}
use Rattle.dd_machine.specs.Tests.{is_active, is_coming, is_pin, is_waiting}
use Rattle.dd_machine.specs.Words.{element}
use Rattle.laws_of_lives.proofs.MadeLemmas.{closed_makes, same_on}
use Rattle.laws_of_lives.proofs.OutsideKept.{here_not_coming}
use Rattle.laws_of_lives.proofs.PlaceKept.{begun_more, begun_on}

abbrev Begun : Plan → State → Type 0
Begun plan st = (t : ℕ) → is_waiting (st.tasks t) ≡ false → was_begun (made plan st.progress) (task_row plan t).region ≡ true

-- a task of the open region changes its state
begun_at : (plan : Plan) (st : State) (task : ℕ) (new : TaskState) → IsSound plan st → was_begun (made plan st.progress) (task_row plan task).region ≡ true
    → (t : ℕ) → is_waiting (at_one st.tasks task new t) ≡ false → was_begun (made plan st.progress) (task_row plan t).region ≡ true
begun_at plan st task new sound was t on = ⊎_elim
    (λ (e : (t ≡ task) × (at_one st.tasks task new t ≡ new)). ap (λ (x : ℕ). was_begun (made plan st.progress) (task_row plan x).region) e.0 ∙ was)
    (λ (e : (t ≢ task) × (at_one st.tasks task new t ≡ st.tasks t)). sound.lives.begun t (ap is_waiting (sym e.1) ∙ on))
    (at_one_tells st.tasks task new t)

pub keeps_begun : (plan : Plan) (st : State) (event : Event) → IsSound plan st → May plan st event → Begun plan (after plan st event)
keeps_begun plan st (Ask space block) sound may = λ t on. begun_on plan st (Ask space block) (task_row plan t).region may.due (sound.lives.begun t on)
keeps_begun plan st Rest sound may = subst (Begun plan) (sym (rested_at plan st may)) (λ t on. begun_on plan st Rest (task_row plan t).region may.due (sound.lives.begun t on))
keeps_begun plan st (Put block) sound may = λ t on. begun_more plan st (Put block) (task_row plan t).region may.due (sound.lives.begun t on)
keeps_begun plan st (Shift block space) sound may = λ t on. begun_more plan st (Shift block space) (task_row plan t).region may.due (sound.lives.begun t on)
keeps_begun plan st (Free space block) sound may = λ t on. begun_on plan st (Free space block) (task_row plan t).region may.due (sound.lives.begun t on)
keeps_begun plan st (Begin region) sound may = λ t on. begun_more plan st (Begin region) (task_row plan t).region may.due (sound.lives.begun t on)
keeps_begun plan st (Close region) sound may = λ t on. begun_more plan st (Close region) (task_row plan t).region (sound.lives.open_next region may.open_is) (sound.lives.begun t on)
keeps_begun plan st (Hold task) sound may =
    let o = (hold_open plan st task may) in
    begun_at plan st task Held sound (ap (was_begun (made plan st.progress)) o.2.1 ∙ sound.lives.open_begun o.0 o.1)
keeps_begun plan st (Claim task worker) sound may = begun_at plan st task (Running worker) sound (sound.lives.begun task (rw may.held refl))
keeps_begun plan st (Finish task) sound may = begun_at plan st task Done sound (sound.lives.begun task (rw (running_by (st.tasks task) may).1 refl))
keeps_begun plan st (Pick space block) sound may = sound.lives.begun
keeps_begun plan st (Gone space block) sound may = sound.lives.begun
keeps_begun plan st (Make task block) sound may = sound.lives.begun
keeps_begun plan st (Call space block) sound may = sound.lives.begun
keeps_begun plan st (Come space block) sound may = sound.lives.begun
keeps_begun plan st (Lend task block source) sound may = sound.lives.begun
keeps_begun plan st (Copy task block source count) sound may = sound.lives.begun
keeps_begun plan st (Back block source count) sound may = sound.lives.begun

abbrev pub ClosedDone : Plan → State → Type 0
ClosedDone plan st = (t : ℕ) → IsOneOf (tasks plan) t → was_closed (made plan st.progress) (task_row plan t).region ≡ true → st.tasks t ≡ Done

pub or_false : (x : Bool) → (x || false) ≡ x
or_false true = refl
or_false false = refl

pub closed_one : (plan : Plan) (st : State) (event : Event) (r : ℕ) → IsNext plan st event → was_closed (made plan (one_more plan st.progress)) r ≡ (was_closed (made plan st.progress) r || close_of r event)
closed_one plan st event r next = closed_makes plan st.progress (one_more plan st.progress) event r (makes_next plan st.progress event next)

-- an event that is no Close
pub closed_same : (plan : Plan) (st : State) (event : Event) (r : ℕ) → (st.region ≡ None → IsNext plan st event) → close_of r event ≡ false → was_closed (made plan (on_outside plan st)) r ≡ was_closed (made plan st.progress) r
closed_same plan st event r due none = same_on plan st event (λ es. was_closed es r) due
    (λ m. closed_makes plan st.progress (one_more plan st.progress) event r m ∙ ap (λ (x : Bool). was_closed (made plan st.progress) r || x) none ∙ or_false (was_closed (made plan st.progress) r))

-- a task that isn't done changes its state
done_at : (plan : Plan) (st : State) (task : ℕ) (new : TaskState) → IsSound plan st → (st.tasks task ≡ Done → ⊥)
    → (t : ℕ) → IsOneOf (tasks plan) t → was_closed (made plan st.progress) (task_row plan t).region ≡ true → at_one st.tasks task new t ≡ Done
done_at plan st task new sound not_done t is was = ⊎_elim
    (λ (e : (t ≡ task) × (at_one st.tasks task new t ≡ new)). absurd (not_done (subst (λ (x : ℕ). st.tasks x ≡ Done) e.0 (sound.lives.closed_done t is was))))
    (λ (e : (t ≢ task) × (at_one st.tasks task new t ≡ st.tasks t)). e.1 ∙ sound.lives.closed_done t is was)
    (at_one_tells st.tasks task new t)

pub keeps_closed_done : (plan : Plan) (st : State) (event : Event) → IsSound plan st → May plan st event → ClosedDone plan (after plan st event)
keeps_closed_done plan st (Ask space block) sound may = λ t is was. sound.lives.closed_done t is (sym (closed_same plan st (Ask space block) (task_row plan t).region may.due refl) ∙ was)
keeps_closed_done plan st Rest sound may = subst (ClosedDone plan) (sym (rested_at plan st may))
    (λ t is was. sound.lives.closed_done t is (sym (closed_same plan st Rest (task_row plan t).region may.due refl) ∙ was))
keeps_closed_done plan st (Put block) sound may = λ t is was. sound.lives.closed_done t is (sym (closed_one plan st (Put block) (task_row plan t).region may.due ∙ or_false (was_closed (made plan st.progress) (task_row plan t).region)) ∙ was)
keeps_closed_done plan st (Shift block space) sound may = λ t is was. sound.lives.closed_done t is (sym (closed_one plan st (Shift block space) (task_row plan t).region may.due ∙ or_false (was_closed (made plan st.progress) (task_row plan t).region)) ∙ was)
keeps_closed_done plan st (Free space block) sound may = λ t is was. sound.lives.closed_done t is (sym (closed_same plan st (Free space block) (task_row plan t).region may.due refl) ∙ was)
keeps_closed_done plan st (Begin region) sound may = λ t is was. sound.lives.closed_done t is (sym (closed_one plan st (Begin region) (task_row plan t).region may.due ∙ or_false (was_closed (made plan st.progress) (task_row plan t).region)) ∙ was)
keeps_closed_done plan st (Close region) sound may = λ t is was. ⊎_elim
    (λ (old : was_closed (made plan st.progress) (task_row plan t).region ≡ true). sound.lives.closed_done t is old)
    (λ (new : eqb region (task_row plan t).region ≡ true). may.all_done t (is, sym (eqb-true region (task_row plan t).region new)))
    (or_cases (was_closed (made plan st.progress) (task_row plan t).region) (eqb region (task_row plan t).region) (sym (closed_one plan st (Close region) (task_row plan t).region (sound.lives.open_next region may.open_is)) ∙ was))
keeps_closed_done plan st (Hold task) sound may = done_at plan st task Held sound (λ done. let w = may.waiting in cc)
keeps_closed_done plan st (Claim task worker) sound may = done_at plan st task (Running worker) sound (λ done. let w = may.held in cc)
keeps_closed_done plan st (Finish task) sound may = done_at plan st task Done sound (λ done. let w = (running_by (st.tasks task) may).1 in cc)
keeps_closed_done plan st (Pick space block) sound may = sound.lives.closed_done
keeps_closed_done plan st (Gone space block) sound may = sound.lives.closed_done
keeps_closed_done plan st (Make task block) sound may = sound.lives.closed_done
keeps_closed_done plan st (Call space block) sound may = sound.lives.closed_done
keeps_closed_done plan st (Come space block) sound may = sound.lives.closed_done
keeps_closed_done plan st (Lend task block source) sound may = sound.lives.closed_done
keeps_closed_done plan st (Copy task block source count) sound may = sound.lives.closed_done
keeps_closed_done plan st (Back block source count) sound may = sound.lives.closed_done

abbrev CurrentDone : Plan → State → Type 0
CurrentDone plan st = (e : Element) → st.current e ≢ 0 → (st.tasks (st.current e) ≡ Done) × (writes plan (st.current e) e ≡ true)

-- a task that isn't done changes its state
wrote_at : (plan : Plan) (st : State) (task : ℕ) (new : TaskState) → IsSound plan st → (st.tasks task ≡ Done → ⊥)
    → (e : Element) → st.current e ≢ 0 → (at_one st.tasks task new (st.current e) ≡ Done) × (writes plan (st.current e) e ≡ true)
wrote_at plan st task new sound not_done e some =
    let old = sound.lives.current_done e some in
    (at_one_other st.tasks task new (st.current e) (λ same. not_done (subst (λ (x : ℕ). st.tasks x ≡ Done) same old.0)) ∙ old.0, old.1)

pub keeps_current_done : (plan : Plan) (st : State) (event : Event) → IsSound plan st → May plan st event → CurrentDone plan (after plan st event)
keeps_current_done plan st (Finish task) sound may = λ e some. by e some (writes plan task e) refl
  where
    by : (e : Element) → cond (writes plan task e) task (st.current e) ≢ 0 → (w : Bool) → writes plan task e ≡ w
        → (at_one st.tasks task Done (cond (writes plan task e) task (st.current e)) ≡ Done) × (writes plan (cond (writes plan task e) task (st.current e)) e ≡ true)
    by e some true is = rw is (at_one_same st.tasks task Done, is)
    by e some false is =
        let some' = rw is at some in
        let old = sound.lives.current_done e some' in
        rw is (
          ⊎_elim
              (λ (t : (st.current e ≡ task) × (at_one st.tasks task Done (st.current e) ≡ Done)). t.1)
              (λ (t : (st.current e ≢ task) × (at_one st.tasks task Done (st.current e) ≡ st.tasks (st.current e))). t.1 ∙ old.0)
              (at_one_tells st.tasks task Done (st.current e)),
          old.1,
        )
keeps_current_done plan st (Hold task) sound may = wrote_at plan st task Held sound (λ done. let w = may.waiting in cc)
keeps_current_done plan st (Claim task worker) sound may = wrote_at plan st task (Running worker) sound (λ done. let w = may.held in cc)
keeps_current_done plan st Rest sound may = subst (CurrentDone plan) (sym (rested_at plan st may)) sound.lives.current_done
keeps_current_done plan st (Ask space block) sound may = sound.lives.current_done
keeps_current_done plan st (Put block) sound may = sound.lives.current_done
keeps_current_done plan st (Shift block space) sound may = sound.lives.current_done
keeps_current_done plan st (Free space block) sound may = sound.lives.current_done
keeps_current_done plan st (Begin region) sound may = sound.lives.current_done
keeps_current_done plan st (Close region) sound may = sound.lives.current_done
keeps_current_done plan st (Pick space block) sound may = sound.lives.current_done
keeps_current_done plan st (Gone space block) sound may = sound.lives.current_done
keeps_current_done plan st (Make task block) sound may = sound.lives.current_done
keeps_current_done plan st (Call space block) sound may = sound.lives.current_done
keeps_current_done plan st (Come space block) sound may = sound.lives.current_done
keeps_current_done plan st (Lend task block source) sound may = sound.lives.current_done
keeps_current_done plan st (Copy task block source count) sound may = sound.lives.current_done
keeps_current_done plan st (Back block source count) sound may = sound.lives.current_done

abbrev ComingPinned : Plan → State → Type 0
ComingPinned plan st = (s b : ℕ) → Has st s b is_coming → is_pinned plan st s b ≡ true

any_more : (p q : ℕ → Bool) (xs : List ℕ) → ((x : ℕ) → p x ≡ true → q x ≡ true) → list_any p xs ≡ true → list_any q xs ≡ true
any_more p q [] more some = some
any_more p q (x ∷ xs) more some = ⊎_elim
    (λ (e : p x ≡ true). or_left (q x) (list_any q xs) (more x e))
    (λ (e : list_any p xs ≡ true). or_right (q x) (list_any q xs) (any_more p q xs more e))
    (or_cases (p x) (list_any p xs) some)

-- one copy was changed to one that isn't Coming
coming_at : (plan : Plan) (st : State) (space block : ℕ) (copy : Option states.Copy) → IsSound plan st → is_in_state is_coming copy ≡ false
    → (s b : ℕ) → is_in_state is_coming (at_copy st.copies space block copy s b) ≡ true → is_pinned plan st s b ≡ true
coming_at plan st space block copy sound none s b coming = ⊎_elim
    (λ (e : (s ≡ space) × (b ≡ block) × (at_copy st.copies space block copy s b ≡ copy)). absurd (let h : true ≡ false = sym coming ∙ ap (is_in_state is_coming) e.2 ∙ none in cc))
    (λ (e : (s ≡ space → b ≡ block → ⊥) × (at_copy st.copies space block copy s b ≡ st.copies s b)). sound.lives.coming_pinned s b (ap (is_in_state is_coming) (sym e.1) ∙ coming))
    (at_copy_tells st.copies space block copy s b)

not_coming : (new : CopyState) (c : Option states.Copy) → is_coming new ≡ false → is_in_state is_coming (in_state new c) ≡ false
not_coming new None e = refl
not_coming new (Some c) e = e

coming_given : (c : Option states.Copy) → is_in_state is_coming (given_back c) ≡ is_in_state is_coming c
coming_given None = refl
coming_given (Some c) = by c.state
  where
    by : (s : CopyState) → is_in_state is_coming (given_back (Some (record { state = s; versions = c.versions }))) ≡ is_coming s
    by state.Here = refl
    by state.Leaving = refl
    by state.Out = refl
    by state.Coming = refl
    by (state.Lent t) = refl

state_where : (changed : ℕ → Bool) (new : ℕ → ℕ) (test : CopyState → Bool) (c : Option states.Copy) → is_in_state test (copy_where changed new c) ≡ is_in_state test c
state_where changed new test None = refl
state_where changed new test (Some c) = refl

coming_copied : (plan : Plan) (st : State) (task block from count s b : ℕ) → is_in_state is_coming ((after_copy plan st task block from count).copies s b) ≡ is_in_state is_coming (st.copies s b)
coming_copied plan st task block from count s b =
    let own = own_space plan st task block in
    let lender = at_copy st.copies from block (given_back (st.copies from block)) in
    let new = copy_where (is_needed plan st task block from) (λ i. st.current (element plan block i)) (st.copies own block) in
    let lent : (x y : ℕ) → is_in_state is_coming (lender x y) ≡ is_in_state is_coming (st.copies x y) = same_at (is_in_state is_coming) st.copies from block (given_back (st.copies from block)) (coming_given (st.copies from block)) in
    same_at (is_in_state is_coming) lender own block new (state_where (is_needed plan st task block from) (λ i. st.current (element plan block i)) is_coming (st.copies own block) ∙ sym (lent own block)) s b
    ∙ lent s b

state_finished : (plan : Plan) (st : State) (task s b : ℕ) (test : CopyState → Bool) → is_in_state test (finish_copy plan st task s b) ≡ is_in_state test (st.copies s b)
state_finished plan st task s b test = by (eqb s (place plan task))
  where
    by : (t : Bool) → is_in_state test (cond t (copy_where (λ i. writes plan task (element plan b i)) (λ i. task) (st.copies s b)) (st.copies s b)) ≡ is_in_state test (st.copies s b)
    by true = state_where (λ i. writes plan task (element plan b i)) (λ i. task) test (st.copies s b)
    by false = refl

-- a task becomes active
used_more : (plan : Plan) (st : State) (task : ℕ) (new : TaskState) (s b : ℕ) → is_active new ≡ true → is_pinned plan st s b ≡ true → is_pinned plan (record st { tasks = at_one st.tasks task new }) s b ≡ true
used_more plan st task new s b on pinned = ⊎_elim
    (λ (p : is_pin st.pin s b ≡ true). or_left (is_pin st.pin s b) (list_any (is_used plan (record st { tasks = at_one st.tasks task new }) s b) (range_with_len 1 (tasks plan))) p)
    (λ (u : list_any (is_used plan st s b) (range_with_len 1 (tasks plan)) ≡ true).
    or_right (is_pin st.pin s b) (list_any (is_used plan (record st { tasks = at_one st.tasks task new }) s b) (range_with_len 1 (tasks plan)))
    (any_more (is_used plan st s b) (is_used plan (record st { tasks = at_one st.tasks task new }) s b) (range_with_len 1 (tasks plan))
    (λ t used. let parts = and_parts (is_active (st.tasks t)) (eqb (place plan t) s && touches plan t b) used in
    and_from (is_active (at_one st.tasks task new t)) (eqb (place plan t) s && touches plan t b)
    (⊎_elim
    (λ (e : (t ≡ task) × (at_one st.tasks task new t ≡ new)). ap is_active e.1 ∙ on)
    (λ (e : (t ≢ task) × (at_one st.tasks task new t ≡ st.tasks t)). ap is_active e.1 ∙ parts.0)
    (at_one_tells st.tasks task new t))
    parts.1)
    u))
    (or_cases (is_pin st.pin s b) (list_any (is_used plan st s b) (range_with_len 1 (tasks plan))) pinned)

-- a task is done: the blocks that it touches are Here
used_less : (plan : Plan) (st : State) (task worker s b : ℕ) → IsSound plan st → st.tasks task ≡ Running worker → Has st s b is_coming → is_pinned plan st s b ≡ true
    → is_pinned plan (after plan st (Finish task)) s b ≡ true
used_less plan st task worker s b sound running coming pinned = ⊎_elim
    (λ (p : is_pin st.pin s b ≡ true). or_left (is_pin st.pin s b) (list_any (is_used plan (after plan st (Finish task)) s b) (range_with_len 1 (tasks plan))) p)
    (λ (u : list_any (is_used plan st s b) (range_with_len 1 (tasks plan)) ≡ true).
    or_right (is_pin st.pin s b) (list_any (is_used plan (after plan st (Finish task)) s b) (range_with_len 1 (tasks plan)))
    (any_more (is_used plan st s b) (is_used plan (after plan st (Finish task)) s b) (range_with_len 1 (tasks plan))
    (λ t used. let parts = and_parts (is_active (st.tasks t)) (eqb (place plan t) s && touches plan t b) used in
    and_from (is_active (at_one st.tasks task Done t)) (eqb (place plan t) s && touches plan t b)
    (⊎_elim
    (λ (e : (t ≡ task) × (at_one st.tasks task Done t ≡ Done)).
    let both = and_parts (eqb (place plan t) s) (touches plan t b) parts.1 in
    let at : place plan task ≡ s = ap (place plan) (sym e.0) ∙ eqb-true (place plan t) s both.0 in
    let here = sound.limits.running_here task b (rw running refl) (ap (λ (x : ℕ). touches plan x b) (sym e.0) ∙ both.1) in
    absurd (here_not_coming (st.copies s b) (subst (λ (x : ℕ). Has st x b is_here) at here) coming))
    (λ (e : (t ≢ task) × (at_one st.tasks task Done t ≡ st.tasks t)). ap is_active e.1 ∙ parts.0)
    (at_one_tells st.tasks task Done t))
    parts.1)
    u))
    (or_cases (is_pin st.pin s b) (list_any (is_used plan st s b) (range_with_len 1 (tasks plan))) pinned)

pub keeps_coming_pinned : (plan : Plan) (st : State) (event : Event) → IsSound plan st → May plan st event → ComingPinned plan (after plan st event)
keeps_coming_pinned plan st (Ask space block) sound may = λ s b coming. ⊎_elim
    (λ (p : is_pin st.pin s b ≡ true). absurd (let h : false ≡ true = sym (ap (λ (o : Option (ℕ × ℕ)). is_pin o s b) may.no_pin) ∙ p in cc))
    (λ (u : list_any (is_used plan st s b) (range_with_len 1 (tasks plan)) ≡ true). or_right (is_pin (Some (space, block)) s b) (list_any (is_used plan st s b) (range_with_len 1 (tasks plan))) u)
    (or_cases (is_pin st.pin s b) (list_any (is_used plan st s b) (range_with_len 1 (tasks plan))) (sound.lives.coming_pinned s b coming))
keeps_coming_pinned plan st Rest sound may = subst (ComingPinned plan) (sym (rested_at plan st may)) (λ s b coming. ⊎_elim
    (λ (p : is_pin st.pin s b ≡ true).
    let both = and_parts (eqb (pin_of plan st may).0 s) (eqb (pin_of plan st may).1 b) (sym (ap (λ (o : Option (ℕ × ℕ)). is_pin o s b) (pin_of plan st may).2) ∙ p) in
    absurd (here_not_coming (st.copies s b)
    (subst (λ (x : ℕ). Has st x b is_here) (eqb-true (pin_of plan st may).0 s both.0) (subst (λ (y : ℕ). Has st (pin_of plan st may).0 y is_here) (eqb-true (pin_of plan st may).1 b both.1) (pin_of plan st may).3.here)) coming))
    (λ (u : list_any (is_used plan st s b) (range_with_len 1 (tasks plan)) ≡ true). u)
    (or_cases (is_pin st.pin s b) (list_any (is_used plan st s b) (range_with_len 1 (tasks plan))) (sound.lives.coming_pinned s b coming)))
keeps_coming_pinned plan st (Put block) sound may = coming_at plan st (st.homes block) block (fresh plan block 0) sound refl
keeps_coming_pinned plan st (Shift block space) sound may = λ s b coming. ⊎_elim
    (λ (e : (s ≡ space) × (b ≡ block) × (at_copy (at_copy st.copies (st.homes block) block None) space block (in_state state.Here (st.copies (st.homes block) block)) s b ≡ in_state state.Here (st.copies (st.homes block) block))).
    absurd (let h : true ≡ false = sym coming ∙ ap (is_in_state is_coming) e.2 ∙ not_coming state.Here (st.copies (st.homes block) block) refl in cc))
    (λ (e : (s ≡ space → b ≡ block → ⊥) × (at_copy (at_copy st.copies (st.homes block) block None) space block (in_state state.Here (st.copies (st.homes block) block)) s b ≡ at_copy st.copies (st.homes block) block None s b)).
    coming_at plan st (st.homes block) block None sound refl s b (ap (is_in_state is_coming) (sym e.1) ∙ coming))
    (at_copy_tells (at_copy st.copies (st.homes block) block None) space block (in_state state.Here (st.copies (st.homes block) block)) s b)
keeps_coming_pinned plan st (Free space block) sound may = coming_at plan st space block None sound refl
keeps_coming_pinned plan st (Begin region) sound may = sound.lives.coming_pinned
keeps_coming_pinned plan st (Close region) sound may = sound.lives.coming_pinned
keeps_coming_pinned plan st (Hold task) sound may = λ s b coming. used_more plan st task Held s b refl (sound.lives.coming_pinned s b coming)
keeps_coming_pinned plan st (Pick space block) sound may = coming_at plan st space block (in_state state.Leaving (st.copies space block)) sound (not_coming state.Leaving (st.copies space block) refl)
keeps_coming_pinned plan st (Gone space block) sound may = coming_at plan st space block (in_state state.Out (st.copies space block)) sound (not_coming state.Out (st.copies space block) refl)
keeps_coming_pinned plan st (Make task block) sound may = coming_at plan st (place plan task) block (fresh plan block states.blank) sound refl
keeps_coming_pinned plan st (Call space block) sound may = λ s b coming. ⊎_elim
    (λ (e : (s ≡ space) × (b ≡ block) × (at_copy st.copies space block (in_state state.Coming (st.copies space block)) s b ≡ in_state state.Coming (st.copies space block))).
    ap (λ (x : ℕ). is_pinned plan st x b) e.0 ∙ ap (λ (y : ℕ). is_pinned plan st space y) e.1 ∙ may.pinned)
    (λ (e : (s ≡ space → b ≡ block → ⊥) × (at_copy st.copies space block (in_state state.Coming (st.copies space block)) s b ≡ st.copies s b)). sound.lives.coming_pinned s b (ap (is_in_state is_coming) (sym e.1) ∙ coming))
    (at_copy_tells st.copies space block (in_state state.Coming (st.copies space block)) s b)
keeps_coming_pinned plan st (Come space block) sound may = coming_at plan st space block (in_state state.Here (st.copies space block)) sound (not_coming state.Here (st.copies space block) refl)
keeps_coming_pinned plan st (Lend task block source) sound may = coming_at plan st source block (in_state (state.Lent task) (st.copies source block)) sound (not_coming (state.Lent task) (st.copies source block) refl)
keeps_coming_pinned plan st (Copy task block source count) sound may = λ s b coming. sound.lives.coming_pinned s b (sym (coming_copied plan st task block source count s b) ∙ coming)
keeps_coming_pinned plan st (Claim task worker) sound may = λ s b coming. used_more plan st task (Running worker) s b refl (sound.lives.coming_pinned s b coming)
keeps_coming_pinned plan st (Finish task) sound may = λ s b coming.
    let old : Has st s b is_coming = sym (state_finished plan st task s b is_coming) ∙ coming in
    used_less plan st task (running_by (st.tasks task) may).0 s b sound (running_by (st.tasks task) may).1 old (sound.lives.coming_pinned s b old)
keeps_coming_pinned plan st (Back block source count) sound may = λ s b coming. sound.lives.coming_pinned s b (sym (coming_copied plan st 0 block source count s b) ∙ coming)
