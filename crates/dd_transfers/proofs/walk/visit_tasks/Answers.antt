use Rattle.std.proofs.Common.{arith}
use Rattle.dd_transfers.specs.Visits.{task_visits}
use Rattle.dd_transfers.proofs.VisitsLemmas.{flat_few, item_few, visited_flat_more}
use Rattle.dd_transfers.proofs.walk.visit_tasks.Goals as goal

pub visit_task-moved-requires-clause-few : goal.visit_task-moved-requires-clause-few
visit_task-moved-requires-clause-few c =
    omega (arith, item_few (task_visits c.args.plan.now c.args.homes.now) c.args.tasks.now c.loop-task.task-index c.task-item.result c.task-item.result c.loop-task-test.true c.task-item.is, c.requires.few)

pub overflow_add-moved : goal.overflow_add-moved
overflow_add-moved c =
    let few = flat_few (task_visits c.args.plan.now c.args.homes.now) c.args.tasks.now c.loop-task.task-index c.task-item.result c.task-item.result c.args.marks.now c.loop-task.marks c.visit_task-moved.new.marks c.loop-task.moved c.visit_task-moved.result
    c.loop-task-test.true c.task-item.is c.loop-task.invariant c.visit_task-moved.ensures in
    omega (arith, few, c.requires.few)

pub loop-task-preserved : goal.loop-task-preserved
loop-task-preserved c =
    visited_flat_more (task_visits c.args.plan.now c.args.homes.now) c.args.tasks.now c.loop-task.task-index c.task-item.result c.task-item.result c.args.marks.now c.loop-task.marks c.visit_task-moved.new.marks c.loop-task.moved c.visit_task-moved.result
    c.loop-task-test.true c.task-item.is c.loop-task.invariant c.visit_task-moved.ensures
