use Rattle.std.proofs.Common.{◌+◌, ℕ, map, arith}
use Rattle.std.specs.List.{range_with_len}
use Rattle.std.proofs.lemmas.List.{length-map}
use Rattle.std.proofs.lemmas.List.FromFn.{length-range_with_len}
use Rattle.dd_transfers.specs.Visits.{ElementVisit, visit_at}
use Rattle.dd_transfers.proofs.ColumnsLemmas.{visited_next}
use Rattle.dd_transfers.proofs.VisitsLemmas.{visited_few}
use Rattle.dd_transfers.proofs.columns.visit_runs.Goals as goal

pub overflow_add-moved : goal.overflow_add-moved
overflow_add-moved c =
    let more : ℕ = c.loop-done.done + c.at_most-run.result.len in
    let f : ℕ → ElementVisit = visit_at c.args.plan.now c.args.homes.now c.args.visit c.args.array in
    let next =
    visited_next c.args.plan.now c.args.homes.now c.args.visit c.args.array c.args.first c.loop-done.done c.from.result c.run_at.result c.at_most-run.result c.args.marks.now c.loop-done.marks
    c.visit_run-moved.new.marks c.loop-done.moved c.visit_run-moved.result c.from.ensures c.at_most-run.ensures.home (omega (arith, c.at_most-run.ensures.len)) c.run_at.ensures.same
    c.loop-done.invariant.visited c.visit_run-moved.ensures in
    let few = visited_few (map f (range_with_len c.args.first more)) c.args.marks.now c.visit_run-moved.new.marks (c.loop-done.moved + c.visit_run-moved.result) next in
    let many = length-map (range_with_len c.args.first more) f in
    omega (arith, few, many, length-range_with_len c.args.first more, c.at_most-run.ensures.len, c.loop-done.invariant.within, c.ranges.count.fits)

pub loop-done-preserved : goal.loop-done-preserved
loop-done-preserved c = record {
  within = omega (arith, c.at_most-run.ensures.len, c.loop-done.invariant.within);
  visited =
      visited_next c.args.plan.now c.args.homes.now c.args.visit c.args.array c.args.first c.loop-done.done c.from.result c.run_at.result c.at_most-run.result c.args.marks.now c.loop-done.marks
      c.visit_run-moved.new.marks c.loop-done.moved c.visit_run-moved.result c.from.ensures c.at_most-run.ensures.home (omega (arith, c.at_most-run.ensures.len)) c.run_at.ensures.same
      c.loop-done.invariant.visited c.visit_run-moved.ensures;
}
