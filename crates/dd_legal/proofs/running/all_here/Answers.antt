use Rattle.std.proofs.Common.{ℕ, ap, ◌∙◌, sym}
use Rattle.std.specs.List.{list_all}
use Rattle.dd_blocks.specs.declared.task_row.TaskRow.{TaskRow}
use Rattle.dd_blocks.specs.Numbered.{task_row}
use Rattle.dd_copies.specs.CopyTables.{copies_of}
use Rattle.dd_machine.specs.Tests.{is_here, is_in_state}
use Rattle.dd_tables.proofs.ListsLemmas.{all_of}
use Rattle.dd_legal.proofs.running.all_here.Goals as goal

pub returns : goal.returns
returns c =
    let p = λ (b : ℕ). is_in_state is_here (copies_of c.args.tables.now.copies c.args.space b) in
    let is = c.are_here.ensures ∙ ap (list_all p) (c.as_slice.ensures ∙ ap (λ (t : TaskRow). t.blocks) c.task.ensures) in
    let all = all_of p (task_row c.args.plan.now c.args.task).blocks in
    ((λ t. all.0 (sym is ∙ t)), (λ each. is ∙ all.1 each))
