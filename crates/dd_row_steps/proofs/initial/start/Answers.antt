use Rattle.std.proofs.Common.{◌≡◌, ℕ, ◌+◌, List, [], length, replicate, ap, sym, ◌∙◌, subst, arith}
use Rattle.std.specs.List.{All}
use Rattle.std.proofs.Math.Path.{fun_ext}
use Rattle.std.proofs.lemmas.List.{length-map, length-replicate}
use Rattle.dd_blocks.specs.declared.proc_row.ProcRow.{ProcRow}
use Rattle.dd_blocks.specs.declared.space_row.SpaceRow.{SpaceRow}
use Rattle.dd_blocks.specs.declared.task_row.TaskRow.{TaskRow}
use Rattle.dd_copies.specs.CopyTables.{IsTable}
use Rattle.dd_machine.specs.declared.task_state.TaskState.{TaskState}
use Rattle.dd_machine.specs.declared.task_state.TaskState.TheVariants.{Waiting}
use Rattle.dd_machine.specs.Words.{blocks}
use Rattle.dd_recency.specs.Recency.{Recency}
use Rattle.dd_spans.specs.PlaceMap.{PlaceMap}
use Rattle.dd_tables.specs.Currents.{current_of}
use Rattle.dd_tables.specs.Sized.{IsAtWork}
use Rattle.dd_tables.specs.Tables.{homes_of, orders_of, tasks_of}
use Rattle.dd_row_steps.proofs.StartLemmas.{current_start, homes_start, orders_start, room_start, start_is, tasks_start, work_start}
use Rattle.dd_row_steps.proofs.initial.start.Goals as goal

pub returns-clause-value : goal.returns-clause-value
returns-clause-value c =
    let plan = c.args.plan.now in
    start_is plan _ _ _ _ _
    (fun_ext (λ s. fun_ext (λ b. c.in_ok-new.ensures.none s b)))
    (ap orders_of c.in_ok-empty_orders.ensures ∙ orders_start _ _)
    (ap tasks_of c.in_ok-all_waiting.ensures ∙ tasks_start _)
    (ap (λ (m : PlaceMap). current_of plan m.list) c.in_ok-new-2.ensures ∙ current_start plan _)
    (ap homes_of c.in_ok-first_homes.ensures ∙ homes_start plan)

pub returns-clause-sized : goal.returns-clause-sized
returns-clause-sized c =
    let plan = c.args.plan.now in
    let count = ap (λ (xs : List SpaceRow). length xs) c.as_slice.ensures in
    let few = c.block_count-blocks.ensures.value in
    let table = subst (λ (n : ℕ). IsTable n c.block_count-blocks.result c.in_ok-new.field-0) count c.in_ok-new.ensures.table in
    let empty = c.in_ok-empty_orders.ensures ∙ ap (λ (n : ℕ). let order : Recency = record { blocks = []; room = n + 2 } in replicate (length c.as_slice.result.now) order) few in
    let wait = c.in_ok-all_waiting.ensures in
    let idle = c.in_ok-no_workers.ensures ∙ ap (λ (xs : List ProcRow). replicate (length xs) 0) c.as_slice-3.ensures in
    record {
      copies = subst (λ (n : ℕ). IsTable (length plan.spaces) n c.in_ok-new.field-0) few table;
      orders = ap (λ (xs : List Recency). length xs) empty ∙ length-replicate _ _ ∙ count;
      room = subst (λ (xs : List Recency). All (λ (order : Recency). order.room ≡ blocks plan + 2) xs) (sym empty) (room_start plan _);
      tasks = ap (λ (xs : List TaskState). length xs) wait ∙ length-replicate _ _ ∙ ap (λ (xs : List TaskRow). length xs) c.as_slice-2.ensures;
      current = ap (λ (m : PlaceMap). length m.list) c.in_ok-new-2.ensures ∙ length-replicate _ _ ∙ c.element_count.ensures;
      homes = ap (λ (xs : List ℕ). length xs) c.in_ok-first_homes.ensures ∙ length-map _ _;
      row = omega arith;
      at_work = subst (λ (xs : List TaskState). IsAtWork plan (tasks_of xs) c.in_ok-no_workers.field-0.items) (sym wait)
          (subst (λ (xs : List ℕ). IsAtWork plan (tasks_of (replicate (length c.as_slice-2.result.now) Waiting)) xs) (sym idle) (work_start plan (length c.as_slice-2.result.now)));
      next = c.next_entry.ensures;
    }
