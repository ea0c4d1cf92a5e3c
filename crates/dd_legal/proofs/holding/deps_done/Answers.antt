use Rattle.std.proofs.Common.{◌≡◌, ℕ, true, ap, ◌∙◌, sym, refl}
use Rattle.std.specs.List.{list_all}
use Rattle.dd_blocks.specs.declared.task_row.TaskRow.{TaskRow}
use Rattle.dd_blocks.specs.Numbered.{task_row}
use Rattle.dd_machine.specs.declared.task_state.TaskState.{TaskState}
use Rattle.dd_machine.specs.declared.task_state.TaskState.TheVariants.{Waiting, Held, Running, Done}
use Rattle.dd_machine.specs.Tests.{is_done}
use Rattle.dd_tables.specs.Tables.{tasks_of}
use Rattle.dd_tables.proofs.ListsLemmas.{all_of}
use Rattle.dd_legal.proofs.holding.deps_done.Goals as goal

done_is : (s : TaskState) → is_done s ≡ true → s ≡ Done
done_is Waiting e = cc
done_is Held e = cc
done_is (Running w) e = cc
done_is Done e = refl

pub returns : goal.returns
returns c =
    let states = tasks_of c.args.tables.now.tasks.items in
    let p = λ (t : ℕ). is_done (states t) in
    let is = c.are_done.ensures ∙ ap (list_all p) (c.as_slice.ensures ∙ ap (λ (t : TaskRow). t.deps) c.task.ensures) in
    let all = all_of p (task_row c.args.plan.now c.args.task).deps in
    ((λ t d has. done_is (states d) (all.0 (sym is ∙ t) d has)), (λ each. is ∙ all.1 (λ d has. ap is_done (each d has))))
