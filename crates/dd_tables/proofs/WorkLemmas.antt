-- The tasks at work, by processors.
use Rattle.std.proofs.Common.{◌≡◌, ◌≢◌, ◌↔◌, ℕ, zero, suc, ◌≤◌, Bool, true, false, ◌&&◌, not, eqb, List, length, Option, Some, None, refl, ap, sym, ◌∙◌, ⊎_elim, arith}
use Rattle.std.specs.List.{list_any, range_with_len, slice_get}
use Rattle.std.proofs.lemmas.Bool.{and_from, and_parts, cases_Bool, cases_eq, eq-eqb, false_from_ne_true, ne_eqb}
use Rattle.std.proofs.lemmas.Option.{slice_get_within}
use Rattle.dd_blocks.specs.declared.plan.Plan.{Plan}
use Rattle.dd_machine.specs.Bytes.{is_used, active_bytes, running_bytes, scratch_bytes, when}
use Rattle.dd_machine.specs.States.{State}
use Rattle.dd_machine.specs.Tests.{is_active, is_running, is_task_held}
use Rattle.dd_machine.specs.Words.{IsOneOf, argument_bytes, place, proc_of, scratch, tasks, total, touches}
use Rattle.dd_machine.proofs.TotalsLemmas.{total_one, total_same, total_swap, total_zero, when_false, when_true}
use Rattle.dd_tables.proofs.ListsLemmas.{any_found, any_range, any_there}
use Rattle.dd_copies.specs.Numbers.{at_number, or_else}
use Rattle.dd_tables.specs.Shares.{is_user, active_of, running_of, scratch_of, worker_at}
use Rattle.dd_tables.specs.Sized.{IsAtWork, IsSized}
use Rattle.dd_tables.specs.declared.tables.Tables.{Tables}
use Rattle.dd_tables.specs.Tables.{state_of, tasks_of}
use Rattle.dd_machine.specs.declared.task_state.TaskState.{TaskState}
use Rattle.dd_machine.specs.declared.task_state.TaskState.TheVariants.{Waiting, Held, Running, Done}

-- a sum of which one term counts
total_at : (n k : ℕ) (f : ℕ → ℕ) → IsOneOf n k → ((i : ℕ) → IsOneOf n i → i ≢ k → f i ≡ 0) → total n f ≡ f k
total_at n k f is none =
    total_same n f (λ i. when (eqb k i) (f k)) (λ i i_is. ⊎_elim
    (λ (e : k ≡ i). ap f (sym e) ∙ sym (when_true (eqb k i) (f k) (eq-eqb k i e)))
    (λ (e : k ≡ i → ⊥). none i i_is (λ same. e (sym same)) ∙ sym (when_false (eqb k i) (f k) (ne_eqb k i e)))
    (cases_eq k i))
    ∙ total_one n k (f k) is

pub some_at : (xs : List ℕ) (p t : ℕ) → worker_at xs p ≡ suc t → at_number xs p ≡ Some (suc t)
some_at xs p t e = by (at_number xs p) e
  where
    by : (o : Option ℕ) → or_else 0 o ≡ suc t → o ≡ Some (suc t)
    by None h = absurd (let z : 0 ≡ suc t = h in omega (arith, z))
    by (Some x) h = ap Some h

in_list : (xs : List ℕ) (p x : ℕ) → at_number xs p ≡ Some x → IsOneOf (length xs) p
in_list xs zero x e = cc
in_list xs (suc n) x e = let lt = slice_get_within xs n x e in (omega arith, omega (arith, lt))

-- a sum over all tasks of which only those at work count is a sum over the processors
pub by_procs : (plan : Plan) (st : State) (at_work : List ℕ) (f : ℕ → ℕ) → IsAtWork plan st.tasks at_work
    → ((t : ℕ) → is_active (st.tasks t) ≡ false → f t ≡ 0) → f 0 ≡ 0
    → total (tasks plan) f ≡ total (length plan.procs) (λ p. f (worker_at at_work p))
by_procs plan st at_work f work idle none =
    total_same (tasks plan) f (λ t. total (length plan.procs) (λ p. when (eqb (worker_at at_work p) t) (f t))) (λ t is. sym (spread t is))
    ∙ total_swap (tasks plan) (length plan.procs) (λ t p. when (eqb (worker_at at_work p) t) (f t))
    ∙ total_same (length plan.procs) (λ p. total (tasks plan) (λ t. when (eqb (worker_at at_work p) t) (f t))) (λ p. f (worker_at at_work p)) (λ p is. gather p (worker_at at_work p) refl)
  where
    spread : (t : ℕ) → IsOneOf (tasks plan) t → total (length plan.procs) (λ p. when (eqb (worker_at at_work p) t) (f t)) ≡ f t
    spread t is = ⊎_elim
        (λ (on : is_active (st.tasks t) ≡ true).
        let here = (work.active t on).1 in
        let same : worker_at at_work (proc_of plan t) ≡ t = ap (or_else 0) here in
        let procs = work.procs in
        let p_is = in_list at_work (proc_of plan t) t here in
        total_at (length plan.procs) (proc_of plan t) (λ p. when (eqb (worker_at at_work p) t) (f t)) (p_is.0, (let h = p_is.1 in omega (arith, h, procs)))
        (λ p _ ne. when_false (eqb (worker_at at_work p) t) (f t) (ne_eqb (worker_at at_work p) t (λ e. ne (elsewhere t is p e))))
        ∙ when_true (eqb (worker_at at_work (proc_of plan t)) t) (f t) (eq-eqb (worker_at at_work (proc_of plan t)) t same))
        (λ (off : is_active (st.tasks t) ≡ false).
        let z = idle t off in
        total_zero (length plan.procs) (λ p. when (eqb (worker_at at_work p) t) (f t)) (λ p _. ap (when (eqb (worker_at at_work p) t)) z ∙ nothing (eqb (worker_at at_work p) t)) ∙ sym z)
        (cases_Bool (is_active (st.tasks t)))
      where
        nothing : (b : Bool) → when b 0 ≡ 0
        nothing true = refl
        nothing false = refl

        elsewhere : (t : ℕ) → IsOneOf (tasks plan) t → (p : ℕ) → worker_at at_work p ≡ t → p ≡ proc_of plan t
        elsewhere zero is p e = absurd (let l = is.0 in omega (arith, l))
        elsewhere (suc t) is p e = sym (work.there p (suc t) (some_at at_work p t e) (λ z. omega (arith, z))).1

    gather : (p w : ℕ) → worker_at at_work p ≡ w → total (tasks plan) (λ t. when (eqb (worker_at at_work p) t) (f t)) ≡ f (worker_at at_work p)
    gather p zero e =
        rw e (total_zero (tasks plan) (λ t. when (eqb 0 t) (f t)) (λ t is. when_false (eqb 0 t) (f t) (ne_eqb 0 t (λ z. let l = is.0 in omega (arith, l, z)))) ∙ sym none)
    gather p (suc w) e =
        let on = (work.there p (suc w) (some_at at_work p w e) (λ z. omega (arith, z))).0 in
        let is = (work.active (suc w) on).0 in
        rw e (total_at (tasks plan) (suc w) (λ t. when (eqb (suc w) t) (f t)) is (λ t _ ne. when_false (eqb (suc w) t) (f t) (ne_eqb (suc w) t (λ z. ne (sym z))))
        ∙ when_true (eqb (suc w) (suc w)) (f (suc w)) (eq-eqb (suc w) (suc w) refl))

pub worker_known : (plan : Plan) (st : State) (at_work : List ℕ) (p t : ℕ) → IsAtWork plan st.tasks at_work → worker_at at_work p ≡ t → t ≢ 0 → IsOneOf (tasks plan) t
worker_known plan st at_work p zero work e ne = absurd (ne refl)
worker_known plan st at_work p (suc t) work e ne = (work.active (suc t) (work.there p (suc t) (some_at at_work p t e) ne).0).0

running_off : (s : TaskState) → is_active s ≡ false → is_running s ≡ false
running_off Waiting e = refl
running_off Held e = refl
running_off (Running w) e = cc
running_off Done e = refl

held_off : (s : TaskState) → is_active s ≡ false → is_task_held s ≡ false
held_off Waiting e = refl
held_off Held e = cc
held_off (Running w) e = refl
held_off Done e = refl

off : (a b : Bool) (n : ℕ) → a ≡ false → when (a && b) n ≡ 0
off a b n e = ap (λ (t : Bool). when (t && b) n) e

pub running_by : (plan : Plan) (core : Tables) (space : ℕ) → IsSized plan core
    → running_bytes plan (state_of plan core) space ≡ total (length plan.procs) (λ p. running_of plan (state_of plan core) space (worker_at core.at_work.items p))
unfolding tasks_of
running_by plan core space sized = by_procs plan (state_of plan core) core.at_work.items (running_of plan (state_of plan core) space) sized.at_work
    (λ t idle. off (is_running (tasks_of core.tasks.items t)) (eqb (place plan t) space) (argument_bytes plan t) (running_off (tasks_of core.tasks.items t) idle)) refl

pub active_by : (plan : Plan) (core : Tables) (space : ℕ) → IsSized plan core
    → active_bytes plan (state_of plan core) space ≡ total (length plan.procs) (λ p. active_of plan (state_of plan core) space (worker_at core.at_work.items p))
unfolding tasks_of
active_by plan core space sized = by_procs plan (state_of plan core) core.at_work.items (active_of plan (state_of plan core) space) sized.at_work
    (λ t idle. off (is_active (tasks_of core.tasks.items t)) (eqb (place plan t) space) (argument_bytes plan t) idle) refl

pub scratch_by : (plan : Plan) (core : Tables) (space : ℕ) → IsSized plan core
    → scratch_bytes plan (state_of plan core) space ≡ total (length plan.procs) (λ p. scratch_of plan (state_of plan core) space (worker_at core.at_work.items p))
unfolding tasks_of
scratch_by plan core space sized = by_procs plan (state_of plan core) core.at_work.items (scratch_of plan (state_of plan core) space) sized.at_work
    (λ t idle. off (is_task_held (tasks_of core.tasks.items t)) (eqb (place plan t) space) (scratch plan t) (held_off (tasks_of core.tasks.items t) idle)) refl

worker_pos : (p : ℕ) (xs : List ℕ) (t : ℕ) → at_number xs p ≡ Some t → (n : ℕ) × (slice_get xs n ≡ Some t)
worker_pos zero xs t at = absurd cc
worker_pos (suc n) xs t at = (n, at)

-- a block is used in a space where a task at work there touches it
pub used_by : (plan : Plan) (st : State) (at_work : List ℕ) (space block : ℕ) → IsAtWork plan st.tasks at_work
    → list_any (is_used plan st space block) (range_with_len 1 (tasks plan)) ≡ list_any (is_user plan space block) at_work
used_by plan st at_work space block work = ⊎_elim
    (λ (any : list_any (is_user plan space block) at_work ≡ true). back any (any_found (is_user plan space block) at_work any) ∙ sym any)
    (λ (none : list_any (is_user plan space block) at_work ≡ false).
    false_from_ne_true (list_any (is_used plan st space block) (range_with_len 1 (tasks plan)))
    (λ any. let f : true ≡ false = sym (there (any_found (is_used plan st space block) (range_with_len 1 (tasks plan)) any)) ∙ none in cc)
    ∙ sym none)
    (cases_Bool (list_any (is_user plan space block) at_work))
  where
    there : (n : ℕ) × (t : ℕ) × (slice_get (range_with_len 1 (tasks plan)) n ≡ Some t) × (is_used plan st space block t ≡ true) → list_any (is_user plan space block) at_work ≡ true
    there found =
        let t = found.1 in
        let parts = and_parts (is_active (st.tasks t)) (eqb (place plan t) space && touches plan t block) found.3 in
        let here = work.active t parts.0 in
        let at = worker_pos (proc_of plan t) at_work t here.1 in
        let one = here.0 in
        any_there (is_user plan space block) at_work at.0 t at.1 (ap (λ (z : Bool). not z && (eqb (place plan t) space && touches plan t block)) (ne_eqb t 0 (λ e. let l = one.0 in omega (arith, l, e))) ∙ parts.1)

    back : list_any (is_user plan space block) at_work ≡ true → (n : ℕ) × (t : ℕ) × (slice_get at_work n ≡ Some t) × (is_user plan space block t ≡ true)
        → list_any (is_used plan st space block) (range_with_len 1 (tasks plan)) ≡ true
    back any found =
        let t = found.1 in
        let parts = and_parts (not (eqb t 0)) (eqb (place plan t) space && touches plan t block) found.3 in
        let some : t ≢ 0 = λ e. (let z : not (eqb t 0) ≡ false = ap not (eq-eqb t 0 e) in let f : true ≡ false = sym parts.0 ∙ z in cc) in
        let on = (work.there (suc found.0) t found.2 some).0 in
        let is = (work.active t on).0 in
        any_range (is_used plan st space block) 1 (tasks plan) t is.0 (let h = is.1 in omega (arith, h)) (and_from (is_active (st.tasks t)) (eqb (place plan t) space && touches plan t block) on parts.1)

pub active_known : (plan : Plan) (core : Tables) (t : ℕ) → IsSized plan core → is_task_held (tasks_of core.tasks.items t) ≡ true → IsOneOf (tasks plan) t
active_known plan core t sized on = (sized.at_work.active t (held_on (tasks_of core.tasks.items t) on)).0
  where
    held_on : (s : TaskState) → is_task_held s ≡ true → is_active s ≡ true
    held_on Waiting e = cc
    held_on Held e = refl
    held_on (Running w) e = refl
    held_on Done e = cc

-- nobody is at work on a processor
pub nobody_at : (plan : Plan) (states : ℕ → TaskState) (at_work : List ℕ) (p : ℕ) → IsAtWork plan states at_work
    → worker_at at_work p ≡ 0 ↔ ((t : ℕ) → IsOneOf (tasks plan) t → proc_of plan t ≡ p → is_active (states t) ≡ false)
nobody_at plan states at_work p work = (to, λ none. from none (worker_at at_work p) refl)
  where
    to : worker_at at_work p ≡ 0 → (t : ℕ) → IsOneOf (tasks plan) t → proc_of plan t ≡ p → is_active (states t) ≡ false
    to none t is on = false_from_ne_true (is_active (states t)) (λ e.
        let here : worker_at at_work p ≡ t = ap (worker_at at_work) (sym on) ∙ ap (or_else 0) (work.active t e).1 in
        let low = is.0 in
        omega (arith, here, none, low))

    from : ((t : ℕ) → IsOneOf (tasks plan) t → proc_of plan t ≡ p → is_active (states t) ≡ false) → (w : ℕ) → worker_at at_work p ≡ w → worker_at at_work p ≡ 0
    from none zero e = e
    from none (suc w) e =
        let there = work.there p (suc w) (some_at at_work p w e) (λ z. omega (arith, z)) in
        let is = (work.active (suc w) there.0).0 in
        absurd (let f : true ≡ false = sym there.0 ∙ none (suc w) is there.1 in cc)

-- a task at work stands among the workers
pub worker_of : (plan : Plan) (states : ℕ → TaskState) (at_work : List ℕ) (t : ℕ) → IsAtWork plan states at_work → is_active (states t) ≡ true
    → (worker_at at_work (proc_of plan t) ≡ t) × (proc_of plan t ≤ length at_work)
worker_of plan states at_work t work on =
    let here = (work.active t on).1 in
    (ap (or_else 0) here, (in_list at_work (proc_of plan t) t here).1)
