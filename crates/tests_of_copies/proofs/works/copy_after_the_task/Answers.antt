-- No more places are written than there are.
use Rattle.std.proofs.Common.{length, ap, subst, OnOk, ◌∙◌, ◌*◌, ◌≤◌, arith}
use Rattle.dd_blocks.specs.Elements.{task_writes}
use Rattle.dd_blocks.specs.Numbered.{task_row}
use Rattle.dd_blocks.specs.PlanElements.{element_of}
use Rattle.dd_spans.specs.PlaceMap.{PlaceMap}
use Rattle.dd_stamps.specs.Cells.{size_of}
use Rattle.dd_stamps.proofs.StampsLemmas.{count_few}
use Rattle.tests_of_copies.proofs.works.copy_after_the_task.Goals as goal

pub store_outputs-requires-clause-spare : goal.store_outputs-requires-clause-spare
store_outputs-requires-clause-spare g c =
    let copy = c.reserve.new.self in
    let few = count_few (λ p. task_writes (task_row copy.plan.now c.run.new.work.task) (element_of copy.plan.now copy.block p)) (size_of copy.plan.now copy.block) in
    let long = c.len-2.ensures ∙ ap (λ (m : PlaceMap). length m.list) c.versions-2.ensures in
    let room = subst (λ r. OnOk r (2 * c.len-2.result ≤ copy.versions.spare)) c.expect.ensures c.reserve.ensures.ok in
    omega (arith, few, long, copy.stamps, ap length c.reserve.ensures.versions, room)
