-- The tasks that run are of the open region, and they are counted there.
use Rattle.std.proofs.Common.{◌≡◌, ◌≢◌, ℕ, zero, suc, ◌+◌, ◌-◌, ◌<◌, ◌≤◌, Bool, true, false, List, length, get_or, Option, Some, None, option_map, slice_get, nat_lt, ◌↔◌, Bor, refl, sym, ap, ◌∙◌, subst, ⊎_elim, arith}
use Rattle.std.proofs.lemmas.Bool.{cases_eq}
use Rattle.dd_blocks.specs.declared.plan.Plan.{Plan}
use Rattle.std.proofs.lemmas.Bool.Decides.{nat_tests}
use Rattle.std.proofs.lemmas.Option.{slice_get_past, slice_get_read}
use Rattle.dd_core.specs.Cores.{core_state}
use Rattle.dd_ledger.specs.declared.ledger.Ledger.{Ledger}
use Rattle.dd_ledger.specs.Ledgers.{state_now}
use Rattle.dd_tables.specs.declared.tables.Tables.{Tables}
use Rattle.dd_machine.specs.declared.entry.Entry.{Entry}
use Rattle.dd_machine.specs.declared.event.Event.{Event}
use Rattle.dd_machine.specs.declared.event.Event.TheVariants.{Claim}
use Rattle.dd_machine.specs.declared.task_state.TaskState.{TaskState}
use Rattle.dd_machine.specs.declared.task_state.TaskState.TheVariants.{Waiting, Held, Running, Done}
use Rattle.dd_machine.specs.Bytes.{when}
use Rattle.dd_machine.specs.Sound.{IsSound}
use Rattle.dd_machine.specs.States.{State}
use Rattle.dd_machine.specs.Tests.{is_active, is_running}
use Rattle.dd_machine.specs.Words.{IsOf, IsOneOf, tasks, total}
use Rattle.dd_machine.proofs.TotalsLemmas.{total_zero}
use Rattle.dd_table.specs.Outs.{HasNone, HasNothingOut, event_at, running_count}

-- who runs is at work
active_running : (s : TaskState) → is_running s ≡ true → is_active s ≡ true
active_running Waiting runs = runs
active_running Held runs = refl
active_running (Running w) runs = refl
active_running Done runs = runs

-- a task that runs is of the open region
pub runs_in : (plan : Plan) (st : State) (region task : ℕ) → IsSound plan st → st.region ≡ Some region → is_running (st.tasks task) ≡ true → IsOf plan region task
runs_in plan st region task sound open_in runs =
    let mine = sound.limits.active_open task (active_running (st.tasks task) runs) in
    let same : mine.0 ≡ region = (let e : Some mine.0 ≡ Some region = sym mine.1 ∙ open_in in cc) in
    subst (λ (r : ℕ). IsOf plan r task) same mine.2

-- and without one none runs
pub none_runs : (plan : Plan) (st : State) → IsSound plan st → st.region ≡ None → HasNothingOut st
none_runs plan st sound closed task = of (is_running (st.tasks task)) refl
  where
    of : (b : Bool) → is_running (st.tasks task) ≡ b → b ≡ false
    of false is = refl
    of true is =
        let mine = sound.limits.active_open task (active_running (st.tasks task) is) in
        absurd (let e : None ≡ Some mine.0 = sym closed ∙ mine.1 in cc)

pub nothing_none : (st : State) (worker : ℕ) → HasNothingOut st → HasNone st worker
nothing_none st worker nothing task is = absurd (let e : true ≡ false = sym (ap is_running is) ∙ nothing task in cc)

-- where no task of the region runs on the worker, none does
pub none_of : (plan : Plan) (st : State) (region before last worker : ℕ) → IsSound plan st → st.region ≡ Some region
    → ((t : ℕ) → IsOf plan region t → (before < t) × (t ≤ last)) → ((t : ℕ) → before < t → t ≤ last → st.tasks t ≢ Running worker) → HasNone st worker
none_of plan st region before last worker sound open_in stand none task is =
    let place = stand task (runs_in plan st region task sound open_in (ap is_running is)) in
    none task place.0 place.1 is

-- up to one number more
pub none_more : (st : State) (before i worker : ℕ) → ((t : ℕ) → before < t → t ≤ i → st.tasks t ≢ Running worker) → st.tasks (i + 1) ≢ Running worker
    → (t : ℕ) → before < t → t ≤ i + 1 → st.tasks t ≢ Running worker
none_more st before i worker none last t above within = ⊎_elim
    (λ (e : t ≡ i + 1). subst (λ (n : ℕ). st.tasks n ≢ Running worker) (sym e) last)
    (λ (apart : t ≡ i + 1 → ⊥). none t above (omega (arith, within, apart)))
    (cases_eq t (i + 1))

-- how many of the first so many tasks run
abbrev pub runs_to : State → ℕ → ℕ
runs_to st n = total n (λ t. when (is_running (st.tasks t)) 1)

pub runs_more : (st : State) (i : ℕ) (b : Bool) → is_running (st.tasks (i + 1)) ≡ b → runs_to st (i + 1) ≡ runs_to st i + when b 1
runs_more st i b is = subst (λ (n : ℕ). runs_to st n ≡ runs_to st i + when b 1) (next i) (ap (λ (x : Bool). runs_to st i + when x 1) (ap (λ (n : ℕ). is_running (st.tasks n)) (next i) ∙ is))
  where
    next : (n : ℕ) → suc n ≡ n + 1
    next n = omega arith

-- none runs that doesn't stand between
not_run : (plan : Plan) (st : State) (region before last t : ℕ) → IsSound plan st → st.region ≡ Some region → ((u : ℕ) → IsOf plan region u → (before < u) × (u ≤ last))
    → ((before < t) × (t ≤ last) → ⊥) → is_running (st.tasks t) ≡ false
not_run plan st region before last t sound open_in stand apart = of (is_running (st.tasks t)) refl
  where
    of : (b : Bool) → is_running (st.tasks t) ≡ b → b ≡ false
    of false is = refl
    of true is = absurd (apart (stand t (runs_in plan st region t sound open_in is)))

pub runs_first : (plan : Plan) (st : State) (region before last : ℕ) → IsSound plan st → st.region ≡ Some region → ((u : ℕ) → IsOf plan region u → (before < u) × (u ≤ last))
    → runs_to st before ≡ 0
runs_first plan st region before last sound open_in stand =
    total_zero before (λ t. when (is_running (st.tasks t)) 1) (λ k is. ap (λ (b : Bool). when b 1) (not_run plan st region before last k sound open_in stand (λ place. let low = place.0 in let high = is.1 in absurd (omega (arith, low, high)))))

-- a sum to which nothing is added any more
total_ends : (n m : ℕ) (f : ℕ → ℕ) → n ≤ m → ((k : ℕ) → n < k → k ≤ m → f k ≡ 0) → total m f ≡ total n f
total_ends n zero f le none = ap (λ (x : ℕ). total x f) (let e : 0 ≡ n = omega (arith, le) in e)
total_ends n (suc m) f le none = ⊎_elim
    (λ (e : n ≡ suc m). ap (λ (x : ℕ). total x f) (sym e))
    (λ (apart : n ≡ suc m → ⊥).
    let within : n ≤ m = omega (arith, le, apart) in
    let rest = total_ends n m f within (λ k low high. none k low (omega (arith, high))) in
    let last = none (suc m) (omega (arith, within)) (omega arith) in
    omega (arith, rest, last))
    (cases_eq n (suc m))

pub runs_last : (plan : Plan) (st : State) (region before last i : ℕ) → IsSound plan st → st.region ≡ Some region → ((u : ℕ) → IsOf plan region u → (before < u) × (u ≤ last)) → last ≤ tasks plan → last ≤ i
    → runs_to st i ≡ running_count plan st
runs_last plan st region before last i sound open_in stand within reached =
    total_ends last i (λ t. when (is_running (st.tasks t)) 1) reached (λ k low high. ap (λ (b : Bool). when b 1) (above k low))
    ∙ sym (total_ends last (tasks plan) (λ t. when (is_running (st.tasks t)) 1) within (λ k low high. ap (λ (b : Bool). when b 1) (above k low)))
  where
    above : (k : ℕ) → last < k → is_running (st.tasks k) ≡ false
    above k low = not_run plan st region before last k sound open_in stand (λ place. let up = place.1 in absurd (omega (arith, low, up)))

-- they are no more than the tasks
pub runs_few : (st : State) (n : ℕ) → runs_to st n ≤ n
runs_few st zero = omega arith
runs_few st (suc n) = let rest = runs_few st n in let last = one (is_running (st.tasks (suc n))) in omega (arith, rest, last)
  where
    one : (b : Bool) → when b 1 ≤ 1
    one true = omega arith
    one false = omega arith

-- where none is counted none runs, and the other way round
none_counted : (st : State) (n k : ℕ) → runs_to st n ≡ 0 → IsOneOf n k → is_running (st.tasks k) ≡ false
none_counted st zero k none is = absurd (let low = is.0 in let high = is.1 in omega (arith, low, high))
none_counted st (suc n) k none is = ⊎_elim
    (λ (e : k ≡ suc n). subst (λ (x : ℕ). is_running (st.tasks x) ≡ false) (sym e) (of (is_running (st.tasks (suc n))) (let last : when (is_running (st.tasks (suc n))) 1 ≡ 0 = omega (arith, none) in last)))
    (λ (apart : k ≡ suc n → ⊥). none_counted st n k (omega (arith, none)) (is.0, (let high = is.1 in omega (arith, high, apart))))
    (cases_eq k (suc n))
  where
    of : (b : Bool) → when b 1 ≡ 0 → b ≡ false
    of false zero_is = refl
    of true zero_is = absurd (let e : 1 ≡ 0 = zero_is in omega (arith, e))

pub counted_none : (plan : Plan) (st : State) (region : ℕ) → IsSound plan st → st.region ≡ Some region → running_count plan st ≡ 0 → HasNothingOut st
counted_none plan st region sound open_in none task = of (is_running (st.tasks task)) refl
  where
    of : (b : Bool) → is_running (st.tasks task) ≡ b → b ≡ false
    of false is = refl
    of true is = sym is ∙ none_counted st (tasks plan) task none (runs_in plan st region task sound open_in is).0

pub none_counts : (plan : Plan) (st : State) → HasNothingOut st → running_count plan st ≡ 0
none_counts plan st nothing = total_zero (tasks plan) (λ t. when (is_running (st.tasks t)) 1) (λ k is. ap (λ (b : Bool). when b 1) (nothing k))

-- a count that isn't above 0
pub not_above : (n : ℕ) → nat_lt 0 n ≡ false → n ≡ 0
not_above n is = grind (arith, nat_tests)

pub no_more : (n : ℕ) → n ≡ 0 → nat_lt 0 n ≡ false
no_more n is = ap (nat_lt 0) is

-- the core of a ledger, by whatever name it goes, has the state of each task, and the open region
pub task_of : (l : Ledger) (core : Tables) (task : ℕ) (state : TaskState) → core ≡ l.core → ((plan : Plan) → state ≡ (core_state plan core).tasks task) → state ≡ (state_now l).tasks task
task_of l core task state same is = is l.plan.now ∙ ap (λ (k : Tables). (core_state l.plan.now k).tasks task) same

pub region_of : (l : Ledger) (core : Tables) (region : Option ℕ) → core ≡ l.core → ((plan : Plan) → region ≡ (core_state plan core).region) → (state_now l).region ≡ region
region_of l core region same is = sym (is l.plan.now ∙ ap (λ (k : Tables). (core_state l.plan.now k).region) same)

-- the tasks of a region, by whatever name the Plan goes
pub stand_by : (l : Ledger) (plan : Bor Plan) (region before last : ℕ) → plan ≡ l.plan → ((t : ℕ) → IsOf plan.now region t ↔ ((before < t) × (t ≤ last))) → (t : ℕ) → IsOf l.plan.now region t → (before < t) × (t ≤ last)
stand_by l plan region before last same tells t of_region = (tells t).0 (subst (λ (p : Bor Plan). IsOf p.now region t) (sym same) of_region)

-- the event of an entry by its number is that of its place; none is there past the end
event_there : (entries : List Entry) (n : ℕ) → n ≢ 0 → event_at entries n ≡ option_map (λ (e : Entry). e.event) (slice_get entries (n - 1))
event_there entries zero some = absurd (some refl)
event_there entries (suc n) some = ap (λ (k : ℕ). option_map (λ (e : Entry). e.event) (slice_get entries k)) (let e : n ≡ suc n - 1 = omega arith in e)

pub event_found : (entries : List Entry) (n : ℕ) (entry : Entry) → n ≢ 0 → n - 1 < length entries → entry ≡ get_or entries (n - 1) entry → event_at entries n ≡ Some entry.event
event_found entries n entry some within is =
    event_there entries n some ∙ ap (option_map (λ (e : Entry). e.event)) (slice_get_read entries (length entries) (n - 1) entry refl within is)

pub event_missing : (entries : List Entry) (n : ℕ) → n ≢ 0 → length entries ≤ n - 1 → event_at entries n ≡ None
event_missing entries n some past = event_there entries n some ∙ ap (option_map (λ (e : Entry). e.event)) (slice_get_past entries (n - 1) past)

-- an event that was found is the Claim, by whatever names; one that wasn't isn't
pub claim_is : (there : Option Event) (event : Event) (task worker t w : ℕ) (r : Bool) → there ≡ Some event → task ≡ t → worker ≡ w → (r ≡ true ↔ (event ≡ Claim task worker)) → (r ≡ true ↔ (there ≡ Some (Claim t w)))
claim_is there event task worker t w r found same_task same_worker tells =
    let same : Claim task worker ≡ Claim t w = ap (λ (k : ℕ). Claim k worker) same_task ∙ ap (λ (k : ℕ). Claim t k) same_worker in (
      λ yes_it. found ∙ ap (λ (e : Event). Some e) (tells.0 yes_it ∙ same),
      λ is. tells.1 ((let e : Some event ≡ Some (Claim t w) = sym found ∙ is in let k : event ≡ Claim t w = cc in k) ∙ sym same),
    )

pub claim_none : (there : Option Event) (event : Event) → there ≡ None → (false ≡ true ↔ (there ≡ Some event))
claim_none there event missing = (λ no. absurd (let e : false ≡ true = no in cc), λ is. absurd (let e : None ≡ Some event = sym missing ∙ is in cc))
