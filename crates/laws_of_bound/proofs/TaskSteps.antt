-- The entries that lead a task on: Hold, Claim and Finish.
use Rattle.std.proofs.Common.{◌≡◌, ◌≢◌, ◌⊎◌, ℕ, ◌+◌, ◌-◌, ◌<◌, ◌≤◌, Bool, true, false, cond, ◌&&◌, ◌||◌, eqb, [], get_or, Option, Some, None, refl, ap, sym, ◌∙◌, subst, ⊎_elim, arith}
use Rattle.std.specs.Prelude.{not, slice_index}
use Rattle.dd_blocks.specs.Elements.{Element}
use Rattle.std.proofs.lemmas.Bool.{cases_Bool, cases_order, or_cases, or_left, or_right}
use Rattle.std.proofs.lemmas.List.Elements.{All-get_or}
use Rattle.dd_blocks.specs.declared.plan.Plan.{Plan}
use Rattle.dd_blocks.specs.declared.proc_row.ProcRow.{ProcRow}
use Rattle.dd_blocks.specs.Numbered.{IsNumberIn}
use Rattle.dd_blocks.specs.WellFormed.{IsWellFormed}
use Rattle.dd_machine.specs.declared.event.Event.TheVariants.{Hold, Claim, Finish}
use Rattle.dd_machine.specs.declared.task_state.TaskState.{TaskState}
use Rattle.dd_machine.specs.declared.task_state.TaskState.TheVariants.{Waiting, Held, Running, Done}
use Rattle.dd_machine.specs.Bytes.{when}
use Rattle.dd_machine.specs.Effects.{after, after_finish, copy_where, finish_copy}
use Rattle.dd_machine.specs.Legal.{MayClaim, MayHold}
use Rattle.dd_machine.specs.Needed.{is_needed, own_space, source_in, version}
use Rattle.dd_machine.specs.Orderly.{IsOrderly}
use Rattle.dd_machine.specs.Sound.{IsSound}
use Rattle.dd_machine.specs.States as states
use Rattle.dd_machine.specs.States.{State, at_one}
use Rattle.dd_machine.specs.Tests.{is_active, is_done, is_lent, is_pin, is_waiting, versions_of}
use Rattle.dd_machine.specs.Words.{IsOf, IsOneOf, blocks, element, place, proc_of, reads, spaces, touches, writes}
use Rattle.dd_machine.proofs.ChangesLemmas.{at_one_other, at_one_same, at_one_tells}
use Rattle.dd_machine.proofs.TestsLemmas.{any_finished, hold_open, state_finished}
use Rattle.dd_machine.proofs.TotalsLemmas.{total_le}
use Rattle.laws_of_limits.proofs.PinsKept.{pin_done, same_some}
use Rattle.laws_of_versions.proofs.ConflictLemmas.{not_later, read_write, reads_needed, write_read}
use Rattle.laws_of_versions.proofs.WhereLemmas.{finished_version}
use Rattle.laws_of_bound.specs.Cost.{any_undone, block_cost, blocks_cost, bring_cost, copy_cost, fetch_at, fetch_cost, is_stale, most_fetch, region_cost, send_cost, task_cost, tasks_cost}
use Rattle.laws_of_bound.proofs.CopiesLemmas.{bring_where, copies_le, cost_where}
use Rattle.laws_of_bound.proofs.FetchLemmas.{fetch_le, fetch_most, send_le}
use Rattle.laws_of_bound.proofs.RestLemmas.{block_le, task_le, tasks_less, undone_at, undone_before}
use Rattle.laws_of_bound.proofs.SumsLemmas.{when_mono}
use Rattle.laws_of_bound.proofs.WantsLemmas.{own_task, pin_tells, short_same}
use Rattle.dd_blocks.proofs.NumberedLemmas.{numbered-get, task_names_rows}

-- a task's space is one of the Plan
pub place_in : (plan : Plan) (r t : ℕ) → IsWellFormed plan → IsOf plan r t → IsOneOf (spaces plan) (place plan t)
place_in plan r t well of =
    let names = task_names_rows plan well t of.0 in
    let no_proc : ProcRow = record { name = []; space = 0 } in
    let p = proc_of plan t in
    let h : IsOneOf (spaces plan) (get_or plan.procs (p - 1) no_proc).space = All-get_or (λ (q : ProcRow). IsNumberIn plan.spaces q.space) plan.procs (p - 1) no_proc (omega (arith, names.proc.0, names.proc.1)) well.names.procs in
    subst (λ (q : ProcRow). IsOneOf (spaces plan) q.space) (sym (numbered-get no_proc plan.procs p names.proc.0)) h

-- one task goes on
tasks_step : (plan : Plan) (st : State) (r task : ℕ) (x : TaskState) → IsOf plan r task → task_cost plan task x (fetch_cost plan st task) + 1 ≤ task_cost plan task (st.tasks task) (fetch_cost plan st task)
    → tasks_cost plan (record st { tasks = at_one st.tasks task x }) r + 1 ≤ tasks_cost plan st r
unfolding fetch_at send_cost
tasks_step plan st r task x of less =
    tasks_less plan (record st { tasks = at_one st.tasks task x }) st r task 1 of
    (λ t t_of ne. let e : task_cost plan t (at_one st.tasks task x t) (fetch_cost plan st t) ≡ task_cost plan t (st.tasks t) (fetch_cost plan st t) = ap (λ (y : TaskState). task_cost plan t y (fetch_cost plan st t)) (at_one_other st.tasks task x t ne) in omega (arith, e))
    (let e : task_cost plan task (at_one st.tasks task x task) (fetch_cost plan st task) ≡ task_cost plan task x (fetch_cost plan st task) = ap (λ (y : TaskState). task_cost plan task y (fetch_cost plan st task)) (at_one_same st.tasks task x) in omega (arith, e, less))

-- a task that wasn't done is in another state: no more is undone
undone_step : (plan : Plan) (st : State) (r task : ℕ) (x : TaskState) → is_done (st.tasks task) ≡ false → any_undone plan (at_one st.tasks task x) r ≡ true → any_undone plan st.tasks r ≡ true
undone_step plan st r task x off = undone_before plan (at_one st.tasks task x) st.tasks r (λ t of now. ⊎_elim
    (λ (e : (t ≡ task) × (at_one st.tasks task x t ≡ x)). ap (λ (k : ℕ). is_done (st.tasks k)) e.0 ∙ off)
    (λ (e : (t ≢ task) × (at_one st.tasks task x t ≡ st.tasks t)). ap is_done (sym e.1) ∙ now)
    (at_one_tells st.tasks task x t))

blocks_step : (plan : Plan) (st : State) (r task : ℕ) (x : TaskState) → is_done (st.tasks task) ≡ false → blocks_cost plan (record st { tasks = at_one st.tasks task x }) r ≤ blocks_cost plan st r
unfolding fetch_at is_stale send_cost
blocks_step plan st r task x off =
    total_le (blocks plan) (block_cost plan (record st { tasks = at_one st.tasks task x }) r) (block_cost plan st r) (λ b _.
    block_le plan (is_pin st.pin (st.homes b) b) (any_undone plan (at_one st.tasks task x) r || is_stale plan st (st.homes b) b) (any_undone plan st.tasks r || is_stale plan st (st.homes b) b)
    (fetch_at plan st 0 b (st.homes b)) (fetch_at plan st 0 b (st.homes b)) (λ _. omega arith)
    (λ is. ⊎_elim
    (λ (e : any_undone plan (at_one st.tasks task x) r ≡ true). or_left (any_undone plan st.tasks r) (is_stale plan st (st.homes b) b) (undone_step plan st r task x off e))
    (λ (e : is_stale plan st (st.homes b) b ≡ true). or_right (any_undone plan st.tasks r) (is_stale plan st (st.homes b) b) e)
    (or_cases (any_undone plan (at_one st.tasks task x) r) (is_stale plan st (st.homes b) b) is)))

hold_less : (plan : Plan) (t : ℕ) (x : TaskState) (f : ℕ → ℕ) → x ≡ Waiting → ((b : ℕ) → f b ≤ most_fetch plan) → task_cost plan t Held f + 1 ≤ task_cost plan t x f
hold_less plan t Waiting f is le =
    let rest = total_le (blocks plan) (λ b. when (touches plan t b) (f b)) (λ b. when (touches plan t b) (most_fetch plan)) (λ b _. when_mono (touches plan t b) (f b) (most_fetch plan) (λ _. le b)) in
    omega (arith, rest)
hold_less plan t Held f is le = absurd cc
hold_less plan t (Running w) f is le = absurd cc
hold_less plan t Done f is le = absurd cc

claim_less : (plan : Plan) (t w : ℕ) (x : TaskState) (f : ℕ → ℕ) → x ≡ Held → task_cost plan t (Running w) f + 1 ≤ task_cost plan t x f
claim_less plan t w Waiting f is = absurd cc
claim_less plan t w Held f is =
    let rest = total_le (blocks plan) (λ b. when (touches plan t b) 0) (λ b. when (touches plan t b) (f b)) (λ b _. when_mono (touches plan t b) 0 (f b) (λ _. omega arith)) in
    omega (arith, rest)
claim_less plan t w (Running v) f is = absurd cc
claim_less plan t w Done f is = absurd cc

finish_less : (plan : Plan) (t w : ℕ) (x : TaskState) (f g : ℕ → ℕ) → x ≡ Running w → task_cost plan t Done f + 1 ≤ task_cost plan t x g
finish_less plan t w Waiting f g is = absurd cc
finish_less plan t w Held f g is = absurd cc
finish_less plan t w (Running v) f g is = omega arith
finish_less plan t w Done f g is = absurd cc

pub falls_hold : (plan : Plan) (st : State) (r task : ℕ) → IsWellFormed plan → st.region ≡ Some r → MayHold plan st task → region_cost plan (after plan st (Hold task)) r + 1 ≤ region_cost plan st r
falls_hold plan st r task well open_in may =
    let o = (hold_open plan st task may) in
    let same : o.0 ≡ r = same_some o.0 r st.region o.1 open_in in
    let of : IsOf plan r task = subst (λ (k : ℕ). IsOf plan k task) same o.2 in
    let ts = tasks_step plan st r task Held of (hold_less plan task (st.tasks task) (fetch_cost plan st task) may.waiting
    (λ b. fetch_most plan st task b (own_space plan st task b) (subst (IsOneOf (spaces plan)) (sym (own_task plan st task b of.0.0)) (place_in plan r task well of)))) in
    let bs = blocks_step plan st r task Held (ap is_done may.waiting) in
    omega (arith, ts, bs)

pub falls_claim : (plan : Plan) (st : State) (r task worker : ℕ) → IsSound plan st → st.region ≡ Some r → MayClaim plan st task worker → region_cost plan (after plan st (Claim task worker)) r + 1 ≤ region_cost plan st r
falls_claim plan st r task worker sound open_in may =
    let o = sound.limits.active_open task (ap is_active may.held) in
    let same : o.0 ≡ r = same_some o.0 r st.region o.1 open_in in
    let of : IsOf plan r task = subst (λ (k : ℕ). IsOf plan k task) same o.2 in
    let ts = tasks_step plan st r task (Running worker) of (claim_less plan task worker (st.tasks task) (fetch_cost plan st task) may.held) in
    let bs = blocks_step plan st r task (Running worker) (ap is_done may.held) in
    omega (arith, ts, bs)

-- ---- Finish

finished_same : {A : Type 0} (g : Option states.Copy → A) (plan : Plan) (st : State) (task s b : ℕ) → ((changed : ℕ → Bool) (new : ℕ → ℕ) (c : Option states.Copy) → g (copy_where changed new c) ≡ g c) → g (finish_copy plan st task s b) ≡ g (st.copies s b)
finished_same {A} g plan st task s b same = by (eqb s (place plan task))
  where
    by : (t : Bool) → g (cond t (copy_where (λ i. writes plan task (element plan b i)) (λ i. task) (st.copies s b)) (st.copies s b)) ≡ g (st.copies s b)
    by true = same (λ i. writes plan task (element plan b i)) (λ i. task) (st.copies s b)
    by false = refl

-- a task at work writes nothing that another one at work reads
no_clash : (plan : Plan) (st : State) (r task t b i w : ℕ) → IsWellFormed plan → IsOrderly plan → IsSound plan st → st.tasks task ≡ Running w → IsOf plan r task → IsOf plan r t → st.tasks t ≡ Held
    → reads plan t (element plan b i) ≡ true → writes plan task (element plan b i) ≡ true → ⊥
no_clash plan st r task t b i w well order sound running of t_of held read write = ⊎_elim
    (λ (same : task ≡ t). let h : Running w ≡ Held = sym running ∙ ap st.tasks same ∙ held in cc)
    (λ (ne : (task < t) ⊎ (t < task)). ⊎_elim
    (λ (lt : task < t). not_later plan st task t well order sound (ap is_active running) (ap is_waiting held) t_of.0 lt (write_read plan task t (element plan b i) write read))
    (λ (lt : t < task). not_later plan st t task well order sound (ap is_active held) (ap is_waiting running) of.0 lt (read_write plan t task (element plan b i) read write))
    ne)
    (cases_order task t)

-- what a Held task needs stays
finished_needs : (plan : Plan) (st : State) (r task t b s i w : ℕ) → IsWellFormed plan → IsOrderly plan → IsSound plan st → st.tasks task ≡ Running w → IsOf plan r task → IsOf plan r t → st.tasks t ≡ Held
    → is_needed plan (after_finish plan st task) t b s i ≡ true → is_needed plan st t b s i ≡ true
finished_needs plan st r task t b s i w well order sound running of t_of held needs = ⊎_elim
    (λ (write : writes plan task e ≡ true). absurd (no_clash plan st r task t b i w well order sound running of t_of held read write))
    (λ (none : writes plan task e ≡ false).
    let now : cond (writes plan task e) task (st.current e) ≡ st.current e = ap (λ (x : Bool). cond x task (st.current e)) none in
    let same : slice_index (versions_of (finish_copy plan st task own b)) i ≡ version st own b i = ⊎_elim
    (λ (old : slice_index (versions_of (finish_copy plan st task own b)) i ≡ version st own b i). old)
    (λ (hit : (writes plan task e ≡ true) × (slice_index (versions_of (finish_copy plan st task own b)) i ≡ task)). absurd (let h : true ≡ false = sym hit.0 ∙ none in cc))
    (finished_version plan st task own b i) in
    sym (ap (λ (v : ℕ). (eqb t 0 || reads plan t e) && (not (eqb v (cond (writes plan task e) task (st.current e))) && eqb (source_in plan st.region (st.homes b) (cond (writes plan task e) task (st.current e))) s)) same
    ∙ ap (λ (c : ℕ). (eqb t 0 || reads plan t e) && (not (eqb (version st own b i) c) && eqb (source_in plan st.region (st.homes b) c) s)) now) ∙ needs)
    (cases_Bool (writes plan task e))
  where
    e : Element
    e = element plan b i

    own : ℕ
    own = own_space plan st t b

    read : reads plan t e ≡ true
    read = reads_needed plan (after_finish plan st task) t b s i t_of.0.0 needs

pub falls_finish : (plan : Plan) (st : State) (r task w : ℕ) → IsWellFormed plan → IsOrderly plan → IsSound plan st → st.region ≡ Some r → st.tasks task ≡ Running w
    → region_cost plan (after plan st (Finish task)) r + 1 ≤ region_cost plan st r
unfolding fetch_at is_stale send_cost
falls_finish plan st r task w well order sound open_in running =
    let o = sound.limits.active_open task (ap is_active running) in
    let same : o.0 ≡ r = same_some o.0 r st.region o.1 open_in in
    let of : IsOf plan r task = subst (λ (k : ℕ). IsOf plan k task) same o.2 in
    let new = after_finish plan st task in
    let cs = copies_le plan st (λ s b. finish_copy plan st task s b) (λ a s b. let e = finished_same (copy_cost a) plan st task s b (λ changed f c. cost_where changed f a c) in omega (arith, e)) in
    let ts = tasks_less plan new st r task 1 of (λ t t_of ne. others of t t_of ne)
    (let e : task_cost plan task (at_one st.tasks task Done task) (fetch_cost plan new task) ≡ task_cost plan task Done (fetch_cost plan new task) = ap (λ (y : TaskState). task_cost plan task y (fetch_cost plan new task)) (at_one_same st.tasks task Done) in
    let less = finish_less plan task w (st.tasks task) (fetch_cost plan new task) (fetch_cost plan st task) running in
    omega (arith, e, less)) in
    let bs = total_le (blocks plan) (block_cost plan new r) (block_cost plan st r) (λ b _.
    block_le plan (is_pin st.pin (st.homes b) b) (any_undone plan (at_one st.tasks task Done) r || is_stale plan new (st.homes b) b) (any_undone plan st.tasks r || is_stale plan st (st.homes b) b)
    (fetch_at plan new 0 b (st.homes b)) (fetch_at plan st 0 b (st.homes b))
    (λ pinned. absurd (let p = pin_tells st.pin (st.homes b) b pinned in
    let done : Running w ≡ Done = pin_done plan st r task (Running w) sound open_in (λ none. let h : None ≡ Some (st.homes b, b) = sym none ∙ p in cc) of running in cc))
    (λ _. or_left (any_undone plan st.tasks r) (is_stale plan st (st.homes b) b) (undone_at plan st.tasks r task of (ap is_done running)))) in
    omega (arith, cs, ts, bs)
  where
    fetches : IsOf plan r task → (t : ℕ) → IsOf plan r t → st.tasks t ≡ Held → (b : ℕ) → fetch_cost plan (after_finish plan st task) t b ≤ fetch_cost plan st t b
    fetches of t t_of held b =
        let new = after_finish plan st task in
        let own = own_space plan st t b in
        let le = fetch_le plan new st t b own 0 (let e = finished_same bring_cost plan st task own b bring_where in omega (arith, e))
        (λ s _ _. send_le plan new st t b own s (state_finished plan st task s b (is_lent (λ x. eqb x t)))
        (short_same plan new st t b own s (any_finished plan st task own b) (λ i lt needs. finished_needs plan st r task t b s i w well order sound running of t_of held needs))) in
        omega (arith, le)

    others : IsOf plan r task → (t : ℕ) → IsOf plan r t → t ≢ task → task_cost plan t (at_one st.tasks task Done t) (fetch_cost plan (after_finish plan st task) t) ≤ task_cost plan t (st.tasks t) (fetch_cost plan st t)
    others of t t_of ne =
        let e : task_cost plan t (at_one st.tasks task Done t) (fetch_cost plan (after_finish plan st task) t) ≡ task_cost plan t (st.tasks t) (fetch_cost plan (after_finish plan st task) t) =
        ap (λ (y : TaskState). task_cost plan t y (fetch_cost plan (after_finish plan st task) t)) (at_one_other st.tasks task Done t ne) in
        let le = task_le plan t (st.tasks t) (fetch_cost plan (after_finish plan st task) t) (fetch_cost plan st t) (λ held b _ _. fetches of t t_of held b) in
        omega (arith, e, le)
