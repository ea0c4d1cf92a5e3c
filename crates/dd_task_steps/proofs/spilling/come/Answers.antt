use Rattle.dd_tables.specs.Tables.{state_of}
use Rattle.dd_task_steps.proofs.StepsLemmas.{coming_away, not_listed}
use Rattle.dd_task_steps.proofs.spilling.come.Goals as goal

pub add_front-requires-clause-absent : goal.add_front-requires-clause-absent
add_front-requires-clause-absent c =
    let st = state_of c.args.plan.now c.args.tables.now in
    not_listed c.args.plan.now st c.args.space c.args.block c.requires.sound (coming_away (st.copies c.args.space c.args.block) c.requires.may.coming)
