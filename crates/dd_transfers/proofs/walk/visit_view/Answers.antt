use Rattle.std.proofs.Common.{◌+◌, ℕ, List, map, subst, arith}
use Rattle.std.proofs.lemmas.List.{length-map}
use Rattle.dd_views.specs.IndexList.{columns_before}
use Rattle.dd_views.proofs.WalkLemmas.{all_done}
use Rattle.dd_blocks.specs.Numbered.{array_row}
use Rattle.dd_blocks.specs.Tasks.{shape_in}
use Rattle.dd_transfers.specs.Visits.{ElementVisit, Visited, visit_at}
use Rattle.dd_transfers.proofs.VisitsLemmas.{columns_few, visited_column, visited_few}
use Rattle.dd_transfers.proofs.walk.visit_view.Goals as goal

pub visit_column-moved-requires-clause-column : goal.visit_column-moved-requires-clause-column
visit_column-moved-requires-clause-column c = record {
  whole = c.column.ensures.whole;
  inside = c.column.ensures.inside (shape_in (array_row c.args.plan.now c.args.view.now.array)) c.requires.view.shown;
}

pub overflow_add-moved : goal.overflow_add-moved
overflow_add-moved c =
    let f : ℕ → ElementVisit = visit_at c.args.plan.now c.args.homes.now c.args.visit c.args.view.now.array in
    let done = visited_column f c.args.view.now c.loop-j.j c.column.result c.args.marks.now c.loop-j.marks c.visit_column-moved.new.marks c.loop-j.moved c.visit_column-moved.result
    c.loop-j-test.true c.column.ensures.value c.loop-j.invariant c.visit_column-moved.ensures in
    let columns : List ℕ = columns_before c.args.view.now (c.loop-j.j + 1) in
    let few = visited_few (map f columns) c.args.marks.now c.visit_column-moved.new.marks (c.loop-j.moved + c.visit_column-moved.result) done in
    omega (arith, few, length-map columns f, columns_few (shape_in (array_row c.args.plan.now c.args.view.now.array)) c.args.view.now (c.loop-j.j + 1) c.requires.view.shown)

pub loop-j-preserved : goal.loop-j-preserved
loop-j-preserved c =
    visited_column (visit_at c.args.plan.now c.args.homes.now c.args.visit c.args.view.now.array) c.args.view.now c.loop-j.j c.column.result c.args.marks.now c.loop-j.marks c.visit_column-moved.new.marks
    c.loop-j.moved c.visit_column-moved.result c.loop-j-test.true c.column.ensures.value c.loop-j.invariant c.visit_column-moved.ensures

pub returns : goal.returns
returns c =
    let f : ℕ → ElementVisit = visit_at c.args.plan.now c.args.homes.now c.args.visit c.args.view.now.array in
    subst (λ (ps : List ℕ). Visited (map f ps) c.args.marks.now c.loop-j.marks c.loop-j.moved) (all_done c.args.view.now c.loop-j.j c.loop-j-test.false) c.loop-j.invariant
