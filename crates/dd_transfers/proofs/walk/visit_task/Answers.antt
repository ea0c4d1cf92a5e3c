use Rattle.std.proofs.Common.{◌+◌, arith}
use Rattle.dd_transfers.specs.Visits.{task_visits}
use Rattle.dd_transfers.proofs.VisitsLemmas.{task_visited, visited_few}
use Rattle.dd_transfers.proofs.walk.visit_task.Goals as goal

pub overflow_add-result : goal.overflow_add-result
overflow_add-result c =
    let both = task_visited c.args.plan.now c.args.homes.now c.args.task.now c.space_of-space.result c.args.marks.now c.visit_accesses-read.new.marks c.visit_accesses-written.new.marks
    c.visit_accesses-read.result c.visit_accesses-written.result c.space_of-space.ensures c.visit_accesses-read.ensures c.visit_accesses-written.ensures in
    let few = visited_few (task_visits c.args.plan.now c.args.homes.now c.args.task.now) c.args.marks.now c.visit_accesses-written.new.marks (c.visit_accesses-read.result + c.visit_accesses-written.result) both in
    omega (arith, few, c.requires.few)

pub returns : goal.returns
returns c =
    task_visited c.args.plan.now c.args.homes.now c.args.task.now c.space_of-space.result c.args.marks.now c.visit_accesses-read.new.marks c.visit_accesses-written.new.marks
    c.visit_accesses-read.result c.visit_accesses-written.result c.space_of-space.ensures c.visit_accesses-read.ensures c.visit_accesses-written.ensures
