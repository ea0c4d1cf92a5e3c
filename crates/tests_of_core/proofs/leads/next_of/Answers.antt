-- The task is Held: the core says so, of its state over every Plan.
use Rattle.std.proofs.Common.{◌≡◌, sym}
use Rattle.dd_blocks.specs.declared.plan.Plan.{Plan}
use Rattle.dd_core.specs.Cores.{core_state}
use Rattle.dd_machine.specs.declared.task_state.TaskState.TheVariants.{Held}
use Rattle.tests_of_core.proofs.leads.next_of.Goals as goal

pub next_for-requires-clause-held : goal.next_for-requires-clause-held
next_for-requires-clause-held g c =
    let held : (plan : Plan) → Held ≡ (core_state plan c.args.core.now).tasks c.args.task = c.in-Held.ensures in
    sym (held c.args.plan.now)
