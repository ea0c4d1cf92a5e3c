use Rattle.std.proofs.Common.{◌+◌, arith}
use Rattle.std.specs.List.{flat_map}
use Rattle.dd_transfers.specs.declared.mark.Visit.TheVariants.{Leave}
use Rattle.dd_transfers.specs.Visits.{region_visits, task_visits, visits_by}
use Rattle.dd_transfers.proofs.VisitsLemmas.{visited_append, visited_few}
use Rattle.dd_transfers.proofs.walk.visit_region.Goals as goal

pub overflow_add-result : goal.overflow_add-result
overflow_add-result c =
    let both = visited_append (flat_map (task_visits c.args.plan.now c.args.homes.now) c.args.tasks.now) (flat_map (visits_by c.args.plan.now c.args.homes.now Leave) c.args.tasks.now)
    c.args.marks.now c.visit_tasks-moved.new.marks c.leave_tasks-moved_home.new.marks c.visit_tasks-moved.result c.leave_tasks-moved_home.result
    c.visit_tasks-moved.ensures c.leave_tasks-moved_home.ensures in
    let few = visited_few (region_visits c.args.plan.now c.args.homes.now c.args.tasks.now) c.args.marks.now c.leave_tasks-moved_home.new.marks (c.visit_tasks-moved.result + c.leave_tasks-moved_home.result) both in
    omega (arith, few, c.requires.few)

pub returns : goal.returns
returns c =
    visited_append (flat_map (task_visits c.args.plan.now c.args.homes.now) c.args.tasks.now) (flat_map (visits_by c.args.plan.now c.args.homes.now Leave) c.args.tasks.now)
    c.args.marks.now c.visit_tasks-moved.new.marks c.leave_tasks-moved_home.new.marks c.visit_tasks-moved.result c.leave_tasks-moved_home.result
    c.visit_tasks-moved.ensures c.leave_tasks-moved_home.ensures
