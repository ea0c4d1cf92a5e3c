use Rattle.std.proofs.Common.{◌<◌, List, pos, length, get_or, ap, arith}
use Rattle.dd_kernels.specs.declared.signature.Mode.TheVariants.{Read}
use Rattle.dd_views.specs.declared.part.Part.TheVariants.{All}
use Rattle.dd_blocks.specs.declared.access_row.AccessRow.{AccessRow}
use Rattle.dd_transfers.specs.Visits.{access_visits}
use Rattle.dd_transfers.proofs.VisitsLemmas.{flat_few, visited_flat_more}
use Rattle.dd_transfers.proofs.walk.visit_accesses.Goals as goal

-- what stands for no access
abbrev none : AccessRow
none = record { view = record { array = 0; height = 0; rows = record { first = 0; step = pos 0; count = 0 }; cols = record { first = 0; step = pos 0; count = 0 }; part = All }; mode = Read }

pub overflow_add-moved : goal.overflow_add-moved
overflow_add-moved c =
    let x : AccessRow = get_or c.as_slice-access-items.result.now c.loop-access.access-index none in
    let is = ap (λ (items : List AccessRow). get_or items c.loop-access.access-index none) c.as_slice-access-items.ensures in
    let lt : c.loop-access.access-index < length c.args.task.now.accesses = omega (arith, c.loop-access-test.true, ap length c.as_slice-access-items.ensures) in
    let few = flat_few (access_visits c.args.plan.now c.args.homes.now c.args.visit) c.args.task.now.accesses c.loop-access.access-index x none c.args.marks.now c.loop-access.marks c.visit_access-moved.new.marks
    c.loop-access.moved c.visit_access-moved.result lt is c.loop-access.invariant c.visit_access-moved.ensures in
    omega (arith, few, c.requires.few)

pub loop-access-preserved : goal.loop-access-preserved
loop-access-preserved c =
    let x : AccessRow = get_or c.as_slice-access-items.result.now c.loop-access.access-index none in
    let is = ap (λ (items : List AccessRow). get_or items c.loop-access.access-index none) c.as_slice-access-items.ensures in
    let lt : c.loop-access.access-index < length c.args.task.now.accesses = omega (arith, c.loop-access-test.true, ap length c.as_slice-access-items.ensures) in
    visited_flat_more (access_visits c.args.plan.now c.args.homes.now c.args.visit) c.args.task.now.accesses c.loop-access.access-index x none c.args.marks.now c.loop-access.marks c.visit_access-moved.new.marks
    c.loop-access.moved c.visit_access-moved.result lt is c.loop-access.invariant c.visit_access-moved.ensures
