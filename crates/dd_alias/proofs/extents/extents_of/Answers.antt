use Rattle.std.proofs.Common.{◌+◌, length, drop, subst, sym}
use Rattle.std.proofs.Common.{List}
use Rattle.dd_blocks.specs.declared.access_row.AccessRow.{AccessRow}
use Rattle.dd_alias.specs.Waits.{AreOwn}
use Rattle.dd_alias.proofs.OwnLemmas.{accesses_at, tasks_grow}
use Rattle.dd_alias.proofs.extents.extents_of.Goals as goal

pub loop-place-preserved : goal.loop-place-preserved
loop-place-preserved c =
    let tasks = c.args.tasks.now in
    let old = c.loop-place.extents.items in
    let new = c.add_extents.new.extents.items in
    let added : AreOwn (c.loop-place.place + 1) c.as_slice-accesses.result.now (drop (length old) new) = c.in_ok-add_extents.ensures.added in
    let is = accesses_at tasks c.loop-place.place c.index-tasks-place.result c.as_slice-accesses.result.now c.loop-place-test.true c.index-tasks-place.is c.as_slice-accesses.ensures in
    tasks_grow tasks c.loop-place.place (length old) old new c.in_ok-add_extents.ensures.before c.loop-place.invariant (subst (λ (xs : List AccessRow). AreOwn (c.loop-place.place + 1) xs (drop (length old) new)) (sym is) added)
