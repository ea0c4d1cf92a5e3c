-- What leads tasks on keeps the region open and uses up its bound; why a waiting task isn't held; and where nobody can be led on while none
-- runs, all are done.
use Rattle.std.proofs.Common.{◌≡◌, ◌≢◌, ◌⊎◌, ℕ, ◌+◌, ◌<◌, ◌≤◌, Bool, true, false, ◌||◌, eqb, eq-eqb, List, [], ◌∷◌, length, Some, refl, sym, ap, ◌∙◌, subst, inl, inr, ⊎_elim, arith}
use Rattle.std.specs.List.{All}
use Rattle.std.proofs.lemmas.Bool.{cases_Bool, cases_eq, eqb-true, or_cases}
use Rattle.std.proofs.lemmas.List.Elements.{All-head, All-tail}
use Rattle.dd_blocks.specs.declared.plan.Plan.{Plan}
use Rattle.dd_blocks.specs.Numbered.{task_row}
use Rattle.dd_blocks.specs.WellFormed.{IsWellFormed}
use Rattle.dd_machine.specs.declared.entry.Entry.{Entry}
use Rattle.dd_machine.specs.declared.event.Event.{Event}
use Rattle.dd_machine.specs.declared.event.Event.TheVariants.{Hold, Pick, Gone, Make, Call, Come, Lend, Copy, Finish}
use Rattle.dd_machine.specs.declared.task_state.TaskState.{TaskState}
use Rattle.dd_machine.specs.declared.task_state.TaskState.TheVariants.{Waiting, Held, Running, Done}
use Rattle.dd_machine.specs.Bytes.{reserved}
use Rattle.dd_machine.specs.Effects.{after}
use Rattle.dd_machine.specs.GoesOn.{LeadsOn, LeadsTasksOn}
use Rattle.dd_machine.specs.Legal.{AllDone, May, MayHold, held_too}
use Rattle.dd_machine.specs.Runs.{IsRun, state_after}
use Rattle.dd_machine.specs.Sound.{IsSound}
use Rattle.dd_machine.specs.States.{State}
use Rattle.dd_machine.specs.Tests.{is_active, is_any, is_done, is_idle, is_in_state, is_running}
use Rattle.dd_machine.specs.Words.{IsOf, IsOneOf, has_number, limit, place, proc_of, tasks}
use Rattle.dd_machine.proofs.TestsLemmas.{done_is}
use Rattle.laws_of_bound.specs.Cost.{region_cost}
use Rattle.laws_of_bound.proofs.Falls.{IsNoClose, falls}
use Rattle.laws_of_lives.proofs.OrderlyLemmas.{orderly}
use Rattle.laws_of_machine.proofs.SoundLemmas.{keeps_sound}
use Rattle.laws_of_progress.proofs.SearchLemmas.{search}
use Rattle.dd_table.specs.Still.{HasToWait, IsPreparing, StandsStill}

-- a region stays open, and the statements where they are
pub prepares_in : (plan : Plan) (st : State) (event : Event) → IsPreparing event → (after plan st event).region ≡ st.region
prepares_in plan st (Hold task) prepares = refl
prepares_in plan st (Pick space block) prepares = refl
prepares_in plan st (Gone space block) prepares = refl
prepares_in plan st (Make task block) prepares = refl
prepares_in plan st (Call space block) prepares = refl
prepares_in plan st (Come space block) prepares = refl
prepares_in plan st (Lend task block source) prepares = refl
prepares_in plan st (Copy task block source count) prepares = refl
prepares_in plan st _ prepares = absurd prepares

pub prepares_on : (plan : Plan) (st : State) (event : Event) → IsPreparing event → (after plan st event).progress ≡ st.progress
prepares_on plan st (Hold task) prepares = refl
prepares_on plan st (Pick space block) prepares = refl
prepares_on plan st (Gone space block) prepares = refl
prepares_on plan st (Make task block) prepares = refl
prepares_on plan st (Call space block) prepares = refl
prepares_on plan st (Come space block) prepares = refl
prepares_on plan st (Lend task block source) prepares = refl
prepares_on plan st (Copy task block source count) prepares = refl
prepares_on plan st _ prepares = absurd prepares

pub prepares_pin : (plan : Plan) (st : State) (event : Event) → IsPreparing event → (after plan st event).pin ≡ st.pin
prepares_pin plan st (Hold task) prepares = refl
prepares_pin plan st (Pick space block) prepares = refl
prepares_pin plan st (Gone space block) prepares = refl
prepares_pin plan st (Make task block) prepares = refl
prepares_pin plan st (Call space block) prepares = refl
prepares_pin plan st (Come space block) prepares = refl
prepares_pin plan st (Lend task block source) prepares = refl
prepares_pin plan st (Copy task block source count) prepares = refl
prepares_pin plan st _ prepares = absurd prepares

pub no_close : (event : Event) → IsPreparing event → IsNoClose event
no_close event prepares region is = subst IsPreparing is prepares

-- some entries use up as much of the region's bound as they are
pub falls_all : (plan : Plan) (st : State) (r : ℕ) (entries : List Entry) → IsWellFormed plan → IsSound plan st → st.region ≡ Some r → IsRun plan st entries
    → All (λ (e : Entry). IsPreparing e.event) entries → region_cost plan (state_after plan st entries) r + length entries ≤ region_cost plan st r
unfolding IsRun state_after
falls_all plan st r [] well sound open_in run prepare = omega arith
falls_all plan st r (entry ∷ entries) well sound open_in run prepare =
    let one = All-head (λ (e : Entry). IsPreparing e.event) entry entries prepare in
    let first = falls plan st r entry.event well (orderly plan well) sound open_in run.0.1 (no_close entry.event one) in
    let rest =
    falls_all plan (after plan st entry.event) r entries well (keeps_sound plan st entry.event well (orderly plan well) sound run.0.1) (prepares_in plan st entry.event one ∙ open_in) run.1
    (All-tail (λ (e : Entry). IsPreparing e.event) entry entries prepare) in
    omega (arith, first, rest)

-- a task of the region that can't be led on stands in none of the ways in which one could be
stands_on : (plan : Plan) (st : State) (r task : ℕ) (event : Event) → st.region ≡ Some r → IsOf plan r task → StandsStill plan st r → ((t : ℕ) → is_running (st.tasks t) ≡ false) → LeadsOn plan st task event
    → May plan st event → ⊥
stands_on plan st r task (Hold t) open_in of_region still none leads may =
    let mine : MayHold plan st task = subst (MayHold plan st) leads may in
    let waits = still.waiting task of_region mine.waiting in
    ⊎_elim
    (λ (dep : (d : ℕ) × (has_number (task_row plan task).deps d ≡ true) × (st.tasks d ≢ Done)). dep.2 (mine.deps_done dep.0 dep.1))
    (λ rest. ⊎_elim
    (λ (busy : (t : ℕ) × IsOneOf (tasks plan) t × (proc_of plan t ≡ proc_of plan task) × (is_active (st.tasks t) ≡ true)).
    let both : true ≡ false = sym busy.3 ∙ mine.alone busy.0 busy.1 busy.2 in absurd cc)
    (λ (over : limit plan (place plan task) < reserved plan (held_too st task) (place plan task)). let room = mine.room in absurd (omega (arith, over, room)))
    rest)
    waits
stands_on plan st r task (Finish t) open_in of_region still none leads may =
    let both : true ≡ false = sym may ∙ none t in absurd cc
stands_on plan st r task event open_in of_region still none leads may = (still.held task of_region leads.0).1 event leads.1 may

-- where nobody can be led on, none runs and nothing is under way, every task of the region is done
pub still_done : (plan : Plan) (st : State) (r : ℕ) → st.region ≡ Some r → LeadsTasksOn plan st → StandsStill plan st r → ((t : ℕ) → is_running (st.tasks t) ≡ false)
    → ((s b : ℕ) → is_in_state is_any (st.copies s b) ≡ true → is_in_state is_idle (st.copies s b) ≡ true) → AllDone plan st r
still_done plan st r open_in leads still none idle t of_region = of_state (st.tasks t) refl
  where
    nobody : (AllDone plan st r → ⊥) → ⊥
    nobody not_all =
        let some = leads.some r open_in (record { tasks = none; copies = idle }) not_all in
        stands_on plan st r some.0 some.2.0.event open_in some.1 still none some.2.1 some.2.2.1

    of_state : (state : TaskState) → st.tasks t ≡ state → st.tasks t ≡ Done
    of_state Done is = is
    of_state Waiting is = absurd (nobody (λ all. let both = sym is ∙ all t of_region in absurd (let h : false ≡ true = ap is_done both in cc)))
    of_state Held is = absurd (nobody (λ all. let both = sym is ∙ all t of_region in absurd (let h : false ≡ true = ap is_done both in cc)))
    of_state (Running w) is = absurd (nobody (λ all. let both = sym is ∙ all t of_region in absurd (let h : false ≡ true = ap is_done both in cc)))

-- a number at the front of a list, and behind it
has_first : (first : ℕ) (numbers : List ℕ) → has_number (first ∷ numbers) first ≡ true
has_first first numbers = ap (λ (b : Bool). b || has_number numbers first) (eq-eqb first first refl)

has_more : (first : ℕ) (numbers : List ℕ) (n : ℕ) → has_number numbers n ≡ true → has_number (first ∷ numbers) n ≡ true
has_more first numbers n more = ap (λ (b : Bool). eqb first n || b) more ∙ or_true (eqb first n)
  where
    or_true : (b : Bool) → (b || true) ≡ true
    or_true true = refl
    or_true false = refl

has_cases : (first : ℕ) (numbers : List ℕ) (n : ℕ) → has_number (first ∷ numbers) n ≡ true → (n ≡ first) ⊎ (has_number numbers n ≡ true)
has_cases first numbers n there = ⊎_elim
    (λ (e : eqb first n ≡ true). inl (sym (eqb-true first n e)))
    (λ (more : has_number numbers n ≡ true). inr more)
    (or_cases (eqb first n) (has_number numbers n) there)

-- a dependency that isn't done, or all are
dep_left : (st : State) (deps : List ℕ) → ((d : ℕ) × (has_number deps d ≡ true) × (st.tasks d ≢ Done)) ⊎ ((d : ℕ) → has_number deps d ≡ true → st.tasks d ≡ Done)
dep_left st [] = inr (λ d there. absurd (let h : false ≡ true = there in cc))
dep_left st (first ∷ deps) = elim (cases_Bool (is_done (st.tasks first))) [
  | inr not ↦ inl (first, has_first first deps, λ done. let h : true ≡ false = sym (ap is_done done) ∙ not in absurd cc)
  | inl done ↦ elim (dep_left st deps) [
    | inl left ↦ inl (left.0, has_more first deps left.0 left.1, left.2)
    | inr all ↦ inr (λ d there. ⊎_elim (λ (e : d ≡ first). subst (λ (x : ℕ). st.tasks x ≡ Done) (sym e) (done_is (st.tasks first) done)) (λ (more : has_number deps d ≡ true). all d more) (has_cases first deps d there))
  ]
]

-- a task of the region that waits and can't be held has to wait
pub has_to_wait : (plan : Plan) (st : State) (r task : ℕ) → st.region ≡ Some r → IsOf plan r task → st.tasks task ≡ Waiting → (MayHold plan st task → ⊥) → HasToWait plan st task
has_to_wait plan st r task open_in of_region waits not = ⊎_elim
    (λ dep. inl dep)
    (λ (deps : (d : ℕ) → has_number (task_row plan task).deps d ≡ true → st.tasks d ≡ Done). ⊎_elim
    (λ busy. inr (inl busy))
    (λ (alone : (t : ℕ) → IsOneOf (tasks plan) t → proc_of plan t ≡ proc_of plan task → is_active (st.tasks t) ≡ false).
    inr (inr (room_left (λ fits. not (record {
      task_is = of_region.0;
      of_region = open_in ∙ ap (λ (x : ℕ). Some x) (sym of_region.1);
      waiting = waits;
      deps_done = deps;
      alone = alone;
      room = fits;
    })))))
    (search (tasks plan) (λ t. proc_of plan t ≡ proc_of plan task → is_active (st.tasks t) ≡ false) busy_or))
    (dep_left st (task_row plan task).deps)
  where
    busy_or : (t : ℕ) → IsOneOf (tasks plan) t
        → ((t : ℕ) × IsOneOf (tasks plan) t × (proc_of plan t ≡ proc_of plan task) × (is_active (st.tasks t) ≡ true)) ⊎ (proc_of plan t ≡ proc_of plan task → is_active (st.tasks t) ≡ false)
    busy_or t is = ⊎_elim
        (λ (same : proc_of plan t ≡ proc_of plan task). ⊎_elim
        (λ (on : is_active (st.tasks t) ≡ true). inl (t, is, same, on))
        (λ (off : is_active (st.tasks t) ≡ false). inr (λ _. off))
        (cases_Bool (is_active (st.tasks t))))
        (λ (apart : proc_of plan t ≡ proc_of plan task → ⊥). inr (λ same. absurd (apart same)))
        (cases_eq (proc_of plan t) (proc_of plan task))

    room_left : (reserved plan (held_too st task) (place plan task) ≤ limit plan (place plan task) → ⊥) → limit plan (place plan task) < reserved plan (held_too st task) (place plan task)
    room_left none = omega (arith, none)
