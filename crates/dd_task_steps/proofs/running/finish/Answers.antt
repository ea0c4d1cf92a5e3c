use Rattle.std.proofs.Common.{ap, ◌∙◌}
use Rattle.dd_blocks.specs.declared.task_row.TaskRow.{TaskRow}
use Rattle.dd_tables.specs.Tables.{state_of}
use Rattle.dd_task_steps.proofs.StepsLemmas.{active_known, running_active}
use Rattle.dd_task_steps.proofs.WritesLemmas.{finished}
use Rattle.dd_task_steps.proofs.running.finish.Goals as goal

pub returns-clause-value : goal.returns-clause-value
returns-clause-value c =
    let plan = c.args.plan.now in
    let st = state_of plan c.args.tables.now in
    let task_is = active_known plan c.args.tables.now c.args.task c.requires.sized (running_active (st.tasks c.args.task) c.requires.may) in
    finished plan st (state_of plan c.write_copies.new.tables) (state_of plan c.use_blocks.new.tables) (state_of plan c.make_current.new.tables) (state_of plan c.set_task.new.tables)
    c.args.task c.place-space.result c.as_slice-touched.result.now c.requires.well task_is (λ s b any. c.requires.sound.versions.sized s b any)
    c.place-space.ensures.value (c.as_slice-touched.ensures ∙ ap (λ (t : TaskRow). t.blocks) c.task_row.ensures)
    c.write_copies.ensures.value c.use_blocks.ensures.value c.make_current.ensures.value c.set_task.ensures.value
