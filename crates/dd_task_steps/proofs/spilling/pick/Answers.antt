use Rattle.dd_task_steps.proofs.StepsLemmas.{picked_block}
use Rattle.dd_task_steps.proofs.spilling.pick.Goals as goal

pub set_state-requires-clause-block : goal.set_state-requires-clause-block
set_state-requires-clause-block c = picked_block c.args.plan.now c.args.tables.now c.args.space c.args.block c.requires.sized c.requires.sound c.requires.may.is_victim
