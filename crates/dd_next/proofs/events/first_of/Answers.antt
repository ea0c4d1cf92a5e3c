use Rattle.std.proofs.Common.{ap, ◌∙◌}
use Rattle.dd_blocks.specs.declared.task_row.TaskRow.{TaskRow}
use Rattle.dd_next.proofs.CandidatesLemmas.{from_blocks, from_picks}
use Rattle.dd_tables.specs.Tables.{state_of}
use Rattle.dd_next.proofs.events.first_of.Goals as goal

pub returns-in-Some : goal.returns-in-Some
returns-in-Some c = from_picks c.args.plan.now (state_of c.args.plan.now c.args.tables.now) c.args.task c.place.result c.in-Some.event c.place.ensures.value c.in-Some.ensures

pub returns-in-None : goal.returns-in-None
returns-in-None c =
    from_blocks c.args.plan.now (state_of c.args.plan.now c.args.tables.now) c.args.task c.place.result c.as_slice.result.now c.first_with.result c.place.ensures.value (c.as_slice.ensures ∙ ap (λ (t : TaskRow). t.blocks) c.task_row.ensures)
    c.in-None.ensures c.first_with.ensures
