use Rattle.std.proofs.Common.{◌≡◌, ℕ, ◌-◌, List, get_or, length, set, ap, sym, ◌∙◌, subst, arith}
use Rattle.dd_copies.proofs.CellsLemmas.{length_same}
use Rattle.dd_machine.specs.declared.task_state.TaskState.{TaskState}
use Rattle.dd_machine.specs.States.{at_one}
use Rattle.dd_machine.specs.Words.{IsOneOf, proc_of}
use Rattle.dd_tables.specs.Shares.{worker_at}
use Rattle.dd_tables.specs.Sized.{IsAtWork}
use Rattle.dd_tables.specs.Tables.{state_of, tasks_of}
use Rattle.dd_tables.proofs.TablesLemmas.{tasks_set}
use Rattle.dd_changes.proofs.WorkersLemmas.{at_work_then, place_known, worker_read, worker_then, workers_then}
use Rattle.dd_changes.proofs.tasks.set_task.Goals as goal

pub returns-clause-value : goal.returns-clause-value
returns-clause-value c =
    let items = c.args.tables.now.tasks.items in
    let long = c.requires.sized.tasks in
    let known : IsOneOf (length items) c.args.task = (c.requires.task.0, (let h = c.requires.task.1 in omega (arith, h, long))) in
    ap (λ (f : ℕ → TaskState). record (state_of c.args.plan.now c.args.tables.now) { tasks = f }) (tasks_set items c.args.task c.args.state known)

pub returns-clause-sized : goal.returns-clause-sized
returns-clause-sized c =
    let s = c.requires.sized in
    let plan = c.args.plan.now in
    let task = c.args.task in
    let new = c.args.state in
    let items = c.args.tables.now.tasks.items in
    let at_work = c.args.tables.now.at_work.items in
    let p = proc_of plan task in
    let long = s.tasks in
    let known : IsOneOf (length items) task = (c.requires.task.0, (let h = c.requires.task.1 in omega (arith, h, long))) in
    let has = place_known plan (tasks_of items) at_work task c.requires.well s.at_work c.requires.task in
    let worker = c.index.result.now in
    let read : worker ≡ worker_at at_work p = c.index.ensures ∙ ap (λ (k : ℕ). get_or at_work (k - 1) worker) c.proc_of.ensures ∙ sym (worker_read at_work p worker has) in
    let is : c.worker_now.result ≡ worker_then new task (worker_at at_work p) = c.worker_now.ensures ∙ ap (worker_then new task) read in
    let list : set at_work (c.proc_of.result - 1) c.worker_now.result ≡ workers_then new task at_work p =
    ap (λ (k : ℕ). set at_work (k - 1) c.worker_now.result) c.proc_of.ensures ∙ ap (set at_work (p - 1)) is in
    record {
      copies = s.copies;
      orders = s.orders;
      room = s.room;
      tasks = length_same items (task - 1) new ∙ s.tasks;
      current = s.current;
      homes = s.homes;
      row = s.row;
      at_work = subst (λ (f : ℕ → TaskState). IsAtWork plan f (set at_work (c.proc_of.result - 1) c.worker_now.result)) (sym (tasks_set items task new known))
          (subst (λ (xs : List ℕ). IsAtWork plan (at_one (tasks_of items) task new) xs) (sym list) (at_work_then plan (tasks_of items) at_work task new s.at_work c.requires.task has c.requires.alone));
      next = s.next;
    }
