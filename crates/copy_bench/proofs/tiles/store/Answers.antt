-- No more places are written than there are.
use Rattle.std.proofs.Common.{length, ap, ◌∙◌, arith}
use Rattle.dd_blocks.specs.Elements.{task_writes}
use Rattle.dd_blocks.specs.Numbered.{task_row}
use Rattle.dd_blocks.specs.PlanElements.{element_of}
use Rattle.dd_spans.specs.PlaceMap.{PlaceMap}
use Rattle.dd_stamps.specs.Cells.{size_of}
use Rattle.dd_stamps.proofs.StampsLemmas.{count_few}
use Rattle.copy_bench.proofs.tiles.store.Goals as goal

pub store_outputs-requires-clause-spare : goal.store_outputs-requires-clause-spare
store_outputs-requires-clause-spare c =
    let copy = c.reserve.new.self in
    let few = count_few (λ p. task_writes (task_row copy.plan.now c.args.work.now.task) (element_of copy.plan.now copy.block p)) (size_of copy.plan.now copy.block) in
    let long = c.len.ensures ∙ ap (λ (m : PlaceMap). length m.list) c.versions.ensures in
    omega (arith, few, long, copy.stamps, ap length c.reserve.ensures.versions, c.in_ok-reserve.ensures.ok, c.in-Some.ensures)
