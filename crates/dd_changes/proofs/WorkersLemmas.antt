-- Who is at work once a task is in another state.
use Rattle.std.proofs.Common.{◌≡◌, ◌≢◌, ℕ, zero, suc, ◌-◌, Bool, true, false, cond, eqb, List, get_or, length, set, Some, refl, ap, sym, subst, ◌∙◌, ⊎_elim, arith}
use Rattle.std.proofs.lemmas.Bool.{cases_Bool, cases_eq, eq-eqb, false_from_ne_true, ne_eqb}
use Rattle.std.proofs.lemmas.List.Elements.{All-get_or}
use Rattle.std.proofs.lemmas.Option.{slice_get-get_or}
use Rattle.dd_blocks.specs.declared.plan.Plan.{Plan}
use Rattle.dd_blocks.specs.declared.task_row.TaskRow.{TaskRow}
use Rattle.dd_blocks.specs.Numbered.{IsNumberIn, no_task, task_row}
use Rattle.dd_blocks.specs.WellFormed.{IsWellFormed, TaskNamesRows}
use Rattle.dd_blocks.proofs.NumberedLemmas.{numbered-get}
use Rattle.dd_copies.specs.Numbers.{at_number, or_else}
use Rattle.dd_copies.proofs.CellsLemmas.{at_other, at_same, length_same}
use Rattle.dd_machine.specs.declared.task_state.TaskState.{TaskState}
use Rattle.dd_machine.specs.States.{at_one}
use Rattle.dd_machine.specs.Tests.{is_active}
use Rattle.dd_machine.specs.Words.{IsOneOf, proc_of, tasks}
use Rattle.dd_machine.proofs.ChangesLemmas.{at_one_other, at_one_same}
use Rattle.dd_tables.specs.Shares.{worker_at}
use Rattle.dd_tables.specs.Sized.{IsAtWork}
use Rattle.dd_tables.proofs.WorkLemmas.{some_at}

-- the task at work on the processor of a task, or 0, once that is in a state
abbrev pub worker_then : TaskState → ℕ → ℕ → ℕ
worker_then new task worker = cond (is_active new) task (cond (eqb worker task) 0 worker)

abbrev pub workers_then : TaskState → ℕ → List ℕ → ℕ → List ℕ
workers_then new task at_work p = set at_work (p - 1) (worker_then new task (worker_at at_work p))

there_at : (xs : List ℕ) (p t : ℕ) → worker_at xs p ≡ t → t ≢ 0 → at_number xs p ≡ Some t
there_at xs p zero e some = absurd (some refl)
there_at xs p (suc t) e some = some_at xs p t e

on_then : (new : TaskState) (task w : ℕ) → is_active new ≡ true → worker_then new task w ≡ task
on_then new task w on = ap (λ (b : Bool). cond b task (cond (eqb w task) 0 w)) on

off_then : (new : TaskState) (task w : ℕ) → is_active new ≡ false → w ≢ task → worker_then new task w ≡ w
off_then new task w off ne =
    ap (λ (b : Bool). cond b task (cond (eqb w task) 0 w)) off ∙ ap (λ (b : Bool). cond b 0 w) (ne_eqb w task ne)

none_then : (new : TaskState) (task w : ℕ) → is_active new ≡ false → w ≡ task → worker_then new task w ≡ 0
none_then new task w off e =
    ap (λ (b : Bool). cond b task (cond (eqb w task) 0 w)) off ∙ ap (λ (b : Bool). cond b 0 w) (eq-eqb w task e)

module _ (plan : Plan) (states : ℕ → TaskState) (at_work : List ℕ) (task : ℕ) (new : TaskState) (work : IsAtWork plan states at_work)
    (is : IsOneOf (tasks plan) task) (has : IsOneOf (length at_work) (proc_of plan task))
    (alone : is_active new ≡ true → (t : ℕ) → is_active (states t) ≡ true → proc_of plan t ≡ proc_of plan task → t ≡ task) where
  is_new : is_active (at_one states task new task) ≡ is_active new
  is_new = ap is_active (at_one_same states task new)

  is_old : (t : ℕ) → t ≢ task → is_active (at_one states task new t) ≡ is_active (states t)
  is_old t ne = ap is_active (at_one_other states task new t ne)

  here : at_number (workers_then new task at_work (proc_of plan task)) (proc_of plan task) ≡ Some (worker_then new task (worker_at at_work (proc_of plan task)))
  here = at_same at_work (proc_of plan task) (worker_then new task (worker_at at_work (proc_of plan task))) has

  elsewhere : (q : ℕ) → q ≢ proc_of plan task → at_number (workers_then new task at_work (proc_of plan task)) q ≡ at_number at_work q
  elsewhere q ne = at_other at_work (proc_of plan task) q (worker_then new task (worker_at at_work (proc_of plan task))) has ne

  placed : (t : ℕ) → t ≢ task → is_active (states t) ≡ true → at_number at_work (proc_of plan t) ≡ Some t → at_number (workers_then new task at_work (proc_of plan task)) (proc_of plan t) ≡ Some t
  placed t ne on at = ⊎_elim
      (λ (e : proc_of plan t ≡ proc_of plan task).
      let off = false_from_ne_true (is_active new) (λ h. ne (alone h t on e)) in
      let was : worker_at at_work (proc_of plan task) ≡ t = ap (or_else 0) (sym (ap (at_number at_work) e) ∙ at) in
      ap (at_number (workers_then new task at_work (proc_of plan task))) e ∙ here
      ∙ ap Some (off_then new task (worker_at at_work (proc_of plan task)) off (λ f. ne (sym was ∙ f)) ∙ was))
      (λ (f : proc_of plan t ≢ proc_of plan task). elsewhere (proc_of plan t) f ∙ at)
      (cases_eq (proc_of plan t) (proc_of plan task))

  active_then : (t : ℕ) → is_active (at_one states task new t) ≡ true → IsOneOf (tasks plan) t × (at_number (workers_then new task at_work (proc_of plan task)) (proc_of plan t) ≡ Some t)
  active_then t on = ⊎_elim
      (λ (e : t ≡ task).
      let on_new : is_active new ≡ true = sym (ap (λ (k : ℕ). is_active (at_one states task new k)) e ∙ is_new) ∙ on in
      rw e (is, here ∙ ap Some (on_then new task (worker_at at_work (proc_of plan task)) on_new)))
      (λ (ne : t ≢ task).
      let on_old = sym (is_old t ne) ∙ on in
      let was = work.active t on_old in
      (was.0, placed t ne on_old was.1))
      (cases_eq t task)

  there_on : (q t : ℕ) → q ≡ proc_of plan task → worker_then new task (worker_at at_work (proc_of plan task)) ≡ t → is_active new ≡ true
      → (is_active (at_one states task new t) ≡ true) × (proc_of plan t ≡ q)
  there_on q t e same on =
      let f : t ≡ task = sym same ∙ on_then new task (worker_at at_work (proc_of plan task)) on in
      (ap (λ (k : ℕ). is_active (at_one states task new k)) f ∙ is_new ∙ on, ap (proc_of plan) f ∙ sym e)

  there_off : (q t : ℕ) → q ≡ proc_of plan task → worker_then new task (worker_at at_work (proc_of plan task)) ≡ t → is_active new ≡ false → t ≢ 0
      → (is_active (at_one states task new t) ≡ true) × (proc_of plan t ≡ q)
  there_off q t e same off some = ⊎_elim
      (λ (f : worker_at at_work (proc_of plan task) ≡ task). absurd (some (sym same ∙ none_then new task (worker_at at_work (proc_of plan task)) off f)))
      (λ (f : worker_at at_work (proc_of plan task) ≢ task).
      let is_t : worker_at at_work (proc_of plan task) ≡ t = sym (off_then new task (worker_at at_work (proc_of plan task)) off f) ∙ same in
      let was = work.there (proc_of plan task) t (there_at at_work (proc_of plan task) t is_t some) some in
      (is_old t (λ g. f (is_t ∙ g)) ∙ was.0, was.1 ∙ sym e))
      (cases_eq (worker_at at_work (proc_of plan task)) task)

  there_then : (q t : ℕ) → at_number (workers_then new task at_work (proc_of plan task)) q ≡ Some t → t ≢ 0 → (is_active (at_one states task new t) ≡ true) × (proc_of plan t ≡ q)
  there_then q t at some = ⊎_elim
      (λ (e : q ≡ proc_of plan task).
      let same : worker_then new task (worker_at at_work (proc_of plan task)) ≡ t =
      ap (or_else 0) (sym here ∙ sym (ap (at_number (workers_then new task at_work (proc_of plan task))) e) ∙ at) in
      ⊎_elim
      (λ (on : is_active new ≡ true). there_on q t e same on)
      (λ (off : is_active new ≡ false). there_off q t e same off some)
      (cases_Bool (is_active new)))
      (λ (f : q ≢ proc_of plan task).
      let was = work.there q t (sym (elsewhere q f) ∙ at) some in
      (is_old t (λ g. f (sym was.1 ∙ ap (proc_of plan) g)) ∙ was.0, was.1))
      (cases_eq q (proc_of plan task))

  pub at_work_then : IsAtWork plan (at_one states task new) (workers_then new task at_work (proc_of plan task))
  at_work_then = record {
    procs = length_same at_work (proc_of plan task - 1) (worker_then new task (worker_at at_work (proc_of plan task))) ∙ work.procs;
    active = active_then;
    there = there_then;
  }

-- the processor of a task has a worker's place, and what stands there
pub proc_known : (plan : Plan) (task : ℕ) → IsWellFormed plan → IsOneOf (tasks plan) task → IsNumberIn plan.procs (proc_of plan task)
proc_known plan task well is =
    let names = All-get_or (TaskNamesRows plan) plan.tasks (task - 1) no_task (omega (arith, is.0, is.1)) well.names.tasks in
    let row : task_row plan task ≡ get_or plan.tasks (task - 1) no_task = numbered-get no_task plan.tasks task is.0 in
    subst (λ (r : TaskRow). IsNumberIn plan.procs r.proc) (sym row) names.proc

pub place_known : (plan : Plan) (states : ℕ → TaskState) (at_work : List ℕ) (task : ℕ) → IsWellFormed plan → IsAtWork plan states at_work → IsOneOf (tasks plan) task → IsOneOf (length at_work) (proc_of plan task)
place_known plan states at_work task well work is =
    let known = proc_known plan task well is in
    (known.0, (let h = known.1 in let l = work.procs in omega (arith, h, l)))

pub worker_read : (xs : List ℕ) (p d : ℕ) → IsOneOf (length xs) p → worker_at xs p ≡ get_or xs (p - 1) d
worker_read xs zero d is = absurd (let l = is.0 in omega (arith, l))
worker_read xs (suc n) d is =
    let e : suc n - 1 ≡ n = omega arith in
    rw e (ap (or_else 0) (slice_get-get_or xs n d (let h = is.1 in omega (arith, h))))
