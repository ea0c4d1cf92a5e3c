use Rattle.std.proofs.Common.{ap}
use Rattle.dd_machine.specs.Tests.{is_active}
use Rattle.dd_task_steps.proofs.StepsLemmas.{active_known}
use Rattle.dd_task_steps.proofs.running.claim.Goals as goal

pub set_task-requires-clause-task : goal.set_task-requires-clause-task
set_task-requires-clause-task c = active_known c.args.plan.now c.args.tables.now c.args.task c.requires.sized (ap is_active c.requires.may.held)

pub set_task-requires-clause-alone : goal.set_task-requires-clause-alone
set_task-requires-clause-alone c = λ _ t on same. c.requires.sound.limits.one_each t c.args.task on (ap is_active c.requires.may.held) same
