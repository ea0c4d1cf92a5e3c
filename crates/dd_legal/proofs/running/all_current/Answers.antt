use Rattle.std.proofs.Common.{ap, ◌∙◌, sym}
use Rattle.std.specs.List.{list_all}
use Rattle.dd_blocks.specs.declared.task_row.TaskRow.{TaskRow}
use Rattle.dd_blocks.specs.Numbered.{task_row}
use Rattle.dd_machine.specs.Needed.{reads_current}
use Rattle.dd_tables.specs.Tables.{state_of}
use Rattle.dd_tables.proofs.ListsLemmas.{all_of}
use Rattle.dd_legal.proofs.running.all_current.Goals as goal

pub returns : goal.returns
returns c =
    let p = reads_current c.args.plan.now (state_of c.args.plan.now c.args.tables.now) c.args.task in
    let is = c.are_current.ensures ∙ ap (list_all p) (c.as_slice.ensures ∙ ap (λ (t : TaskRow). t.blocks) c.task.ensures) in
    let all = all_of p (task_row c.args.plan.now c.args.task).blocks in
    ((λ t. all.0 (sym is ∙ t)), (λ each. is ∙ all.1 each))
