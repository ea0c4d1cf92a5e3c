-- The events that lead a Held task on, and what is left where there is none.
use Rattle.std.proofs.Common.{◌≡◌, ℕ, zero, suc, ◌≤◌, Bool, true, false, cond, [], ◌∷◌, ◌++◌, length, get_or, Some, Bor, refl, sym, ◌∙◌, subst, arith}
use Rattle.std.specs.List.{All, range_with_len}
use Rattle.std.proofs.lemmas.List.Elements.{All-append, All-cons, All-map, All-nil}
use Rattle.dd_lists.proofs.ListsLemmas.{All-flat_map}
use Rattle.dd_blocks.specs.declared.plan.Plan.{Plan}
use Rattle.dd_blocks.specs.Numbered.{task_row}
use Rattle.dd_blocks.specs.WellFormed.{IsWellFormed}
use Rattle.dd_core.specs.Cores.{core_state}
use Rattle.dd_holding.specs.Carried.{carries}
use Rattle.dd_holding.proofs.HereLemmas.{sound_now}
use Rattle.dd_ledger.specs.declared.ledger.Ledger.{Ledger}
use Rattle.dd_ledger.specs.Ledgers as ledgers
use Rattle.dd_legal.specs.Starts.{MayStart}
use Rattle.dd_machine.specs.declared.event.Event.{Event}
use Rattle.dd_machine.specs.declared.event.Event.TheVariants.{Pick, Gone, Make, Call, Come, Lend, Copy, Claim}
use Rattle.dd_machine.specs.declared.task_state.TaskState.TheVariants.{Waiting, Held}
use Rattle.dd_machine.specs.GoesOn.{LeadsHeldOn}
use Rattle.dd_machine.specs.Legal.{May, MayCopy, MayHold}
use Rattle.dd_machine.specs.Needed.{needed}
use Rattle.dd_machine.specs.Sound.{IsSound}
use Rattle.dd_machine.specs.States.{State}
use Rattle.dd_machine.specs.Tests.{is_here, is_in_state}
use Rattle.dd_machine.specs.Words.{IsOf, blocks, place, spaces}
use Rattle.dd_next.specs.Candidates.{calls, candidates, copies, copies_of, copy_from, lends, lends_of, makes, picks, with_blocks}
use Rattle.dd_next.specs.Claims.{is_claim}
use Rattle.dd_next.specs.First.{IsFirstLegal}
use Rattle.dd_next.proofs.CandidatesLemmas.{held_known, some_has}
use Rattle.dd_tables.specs.declared.tables.Tables.{Tables}
use Rattle.dd_table.specs.Leading.{AllStand, IsServed, Serves, Stands, served}
use Rattle.dd_table.specs.Still.{IsPreparing, StandsStill}
use Rattle.dd_table.proofs.ClaimedLemmas.{may_start_of}
use Rattle.dd_table.proofs.PreparesLemmas.{from_core}
use Rattle.dd_table.proofs.StillLemmas.{has_to_wait}

-- no candidate is a Claim
abbrev IsOther : Event → Type 0
IsOther event = is_claim event ≡ false

copy_other : (plan : Plan) (st : State) (task block source : ℕ) → All IsOther (copy_from plan st task block source)
copy_other plan st task block source = by (is_in_state is_here (st.copies source block))
  where
    by : (t : Bool) → All IsOther (cond t (Copy task block source (length (needed plan st task block source)) ∷ []) [])
    by true = All-cons IsOther (Copy task block source (length (needed plan st task block source))) [] refl (All-nil IsOther)
    by false = All-nil IsOther

all_other : (plan : Plan) (st : State) (task : ℕ) → All IsOther (candidates plan st task)
all_other plan st task =
    let found = (task_row plan task).blocks in
    let space = place plan task in
    All-append IsOther (picks plan space) (with_blocks plan st task found)
    (All-map IsOther (λ b. Pick space b) (range_with_len 1 (blocks plan)) (λ k d lt. refl))
    (All-append IsOther (makes task found) (calls space found ++ (copies plan st task found ++ lends plan task found))
    (All-map IsOther (λ b. Make task b) found (λ k d lt. refl))
    (All-append IsOther (calls space found) (copies plan st task found ++ lends plan task found)
    (All-map IsOther (λ b. Call space b) found (λ k d lt. refl))
    (All-append IsOther (copies plan st task found) (lends plan task found)
    (All-flat_map IsOther (copies_of plan st task) found (λ k d lt.
    All-flat_map IsOther (copy_from plan st task (get_or found k d)) (range_with_len 1 (spaces plan)) (λ j x less. copy_other plan st task (get_or found k d) (get_or (range_with_len 1 (spaces plan)) j x))))
    (All-flat_map IsOther (lends_of plan task) found (λ k d lt. All-map IsOther (λ s. Lend task (get_or found k d) s) (range_with_len 1 (spaces plan)) (λ j x less. refl))))))

-- the first legal one leads the task on, and doesn't start it
pub serves_first : (plan : Plan) (st : State) (task : ℕ) (event : Event) → IsSound plan st → st.tasks task ≡ Held → IsFirstLegal plan st (candidates plan st task) (Some event)
    → LeadsHeldOn plan st task event → May plan st event → Serves plan st event
serves_first plan st task event sound held first leads may = record {
  task = task;
  some = (held_known plan st task sound held).0;
  leads = leads;
  may = may;
  no_claim = some_has plan st IsOther (candidates plan st task) event (all_other plan st task) first;
}

-- the events that are made for it lead tasks on, and there is one
carries_on : (task block source count : ℕ) → 1 ≤ task → IsPreparing (carries task block source count)
carries_on zero block source count some = absurd (omega (arith, some))
carries_on (suc t) block source count some = tt

pub served_prepare : (plan : Plan) (st : State) (event : Event) → Serves plan st event → All IsPreparing (served plan st event)
served_prepare plan st (Pick space block) serves = All-cons IsPreparing (Pick space block) (Gone space block ∷ []) tt (All-cons IsPreparing (Gone space block) [] tt (All-nil IsPreparing))
served_prepare plan st (Make task block) serves = All-cons IsPreparing (Make task block) [] tt (All-nil IsPreparing)
served_prepare plan st (Call space block) serves = All-cons IsPreparing (Call space block) (Come space block ∷ []) tt (All-cons IsPreparing (Come space block) [] tt (All-nil IsPreparing))
served_prepare plan st (Lend task block source) serves =
    let event = carries task block source (length (needed plan st task block source)) in
    All-cons IsPreparing (Lend task block source) (event ∷ []) tt
    (All-cons IsPreparing event [] (carries_on task block source (length (needed plan st task block source)) (subst (λ (x : ℕ). 1 ≤ x) (sym serves.leads) serves.some)) (All-nil IsPreparing))
served_prepare plan st (Copy task block source count) serves =
    let event = carries task block source (length (needed plan st task block source)) in
    All-cons IsPreparing event [] (carries_on task block source (length (needed plan st task block source)) (subst (λ (x : ℕ). 1 ≤ x) (sym serves.leads.0) serves.some)) (All-nil IsPreparing)
served_prepare plan st (Claim task worker) serves = absurd (let e : true ≡ false = serves.no_claim in cc)
served_prepare plan st _ serves = absurd serves.leads

pub served_some : (plan : Plan) (st : State) (event : Event) → 1 ≤ length (served plan st event)
served_some plan st (Pick space block) = omega arith
served_some plan st (Call space block) = omega arith
served_some plan st (Lend task block source) = omega arith
served_some plan st (Copy task block source count) = omega arith
served_some plan st _ = omega arith

-- what a Copy of a task carries is all that is needed
pub copy_may : (plan : Plan) (st : State) (task block source count : ℕ) → May plan st (Copy task block source count) → May plan st (carries task block source (length (needed plan st task block source)))
copy_may plan st zero block source count may = let some = may.0 in absurd (omega (arith, some))
copy_may plan st (suc t) block source count may = (may.0, subst (λ (n : ℕ). MayCopy plan st (suc t) block source n) may.1.exact may.1)

-- a task that can't start, and has no event but its Claim, stands; so does one that can't be held, and one that is under way or done
pub stands_held : (plan : Plan) (st : State) (task : ℕ) → st.tasks task ≡ Held → (MayStart plan st task → ⊥) → IsServed plan st task → Stands task plan st
stands_held plan st task is not_start served = record {
  held = λ _. (not_start, λ event leads may. no_event event leads may (served event leads may));
  waiting = λ waits. absurd (let e : Waiting ≡ Held = sym waits ∙ is in cc);
}
  where
    no_event : (event : Event) → LeadsHeldOn plan st task event → May plan st event → is_claim event ≡ true → ⊥
    no_event (Claim t worker) leads may claim = not_start (subst (λ (x : ℕ). MayStart plan st x) leads (may_start_of plan st t worker may))
    no_event _ leads may claim = absurd (let e : false ≡ true = claim in cc)

pub stands_waiting : (plan : Plan) (st : State) (task : ℕ) → st.tasks task ≡ Waiting → (MayHold plan st task → ⊥) → Stands task plan st
stands_waiting plan st task is not_hold = record {
  held = λ held. absurd (let e : Waiting ≡ Held = sym is ∙ held in cc);
  waiting = λ _. not_hold;
}

pub stands_other : (plan : Plan) (st : State) (task : ℕ) → (st.tasks task ≡ Held → ⊥) → (st.tasks task ≡ Waiting → ⊥) → Stands task plan st
stands_other plan st task not_held not_waiting = record {
  held = λ held. absurd (not_held held);
  waiting = λ waits may. not_waiting waits;
}

-- where each task of the region stands, the region does
pub region_stands : (plan : Plan) (st : State) (region : ℕ) → st.region ≡ Some region → ((task : ℕ) → IsOf plan region task → Stands task plan st) → AllStand plan st
region_stands plan st region open_in each r is =
    let same : region ≡ r = let e : Some region ≡ Some r = sym open_in ∙ is in cc in
    subst (λ (x : ℕ). StandsStill plan st x) same (record {
      held = λ task of_region. (each task of_region).held;
      waiting = λ task of_region waits. has_to_wait plan st region task open_in of_region waits ((each task of_region).waiting waits);
    })

-- the same of the core of a ledger, by whatever names it goes
pub serves_now : (l : Ledger) (plan : Bor Plan) (core : Tables) (task : ℕ) (event : Event) → IsWellFormed l.plan.now → plan ≡ l.plan → core ≡ l.core → (ledgers.state_now l).tasks task ≡ Held
    → IsFirstLegal plan.now (core_state plan.now core) (candidates plan.now (core_state plan.now core) task) (Some event)
    → LeadsHeldOn plan.now (core_state plan.now core) task event × May plan.now (core_state plan.now core) event → Serves l.plan.now (ledgers.state_now l) event
serves_now l plan core task event well same is held first leads =
    let first_now = from_core (λ (p : Plan) (st : State). IsFirstLegal p st (candidates p st task) (Some event)) l plan core same is first in
    let leads_now = from_core (λ (p : Plan) (st : State). LeadsHeldOn p st task event × May p st event) l plan core same is leads in
    serves_first l.plan.now (ledgers.state_now l) task event (sound_now l well) held first_now leads_now.0 leads_now.1

pub served_now : (l : Ledger) (plan : Bor Plan) (core : Tables) (task : ℕ) → plan ≡ l.plan → core ≡ l.core → IsServed plan.now (core_state plan.now core) task → IsServed l.plan.now (ledgers.state_now l) task
served_now l plan core task same is served = from_core (λ (p : Plan) (st : State). IsServed p st task) l plan core same is served
