use Rattle.std.proofs.Common.{◌≡◌, ap, sym, ◌∙◌}
use Rattle.dd_blocks.specs.declared.task_row.TaskRow.{TaskRow}
use Rattle.dd_blocks.specs.Numbered.{task_row}
use Rattle.dd_spans.proofs.CutLemmas.{found}
use Rattle.dd_tables.proofs.ListsLemmas.{any_is}
use Rattle.dd_tables.proofs.SmallLemmas.{touched_known}
use Rattle.dd_tables.proofs.rows.touches.Goals as goal

pub returns-clause-value : goal.returns-clause-value
returns-clause-value c =
    let plan = c.args.plan.now in
    let blocks = (task_row plan c.args.task).blocks in
    let is : c.as_slice.result.now ≡ blocks = c.as_slice.ensures ∙ ap (λ (t : TaskRow). t.blocks) c.task.ensures in
    let rising = (c.requires.well.tasks c.args.task c.requires.task).blocks.rising in
    any_is blocks c.args.block c.is_ok.result (rw c.is_ok.ensures.value (found blocks c.args.block c.binary_search.result rising (rw is at c.binary_search.ensures.position)))

pub returns-clause-known : goal.returns-clause-known
returns-clause-known c = λ is. touched_known c.args.plan.now c.args.task c.args.block c.requires.well c.requires.task (sym (returns-clause-value c) ∙ is)
