use Rattle.std.proofs.Common.{◌+◌, ◌%◌, ◌^◌, ◌<◌, ℕ, List, [], ◌∷◌, map, w64, ap, ◌∙◌, arith, rules}
use Rattle.std.specs.Int.{cast_unsigned}
use Rattle.std.specs.Int.RustNames.{FitsSigned}
use Rattle.std.specs.List.{range_with_len}
use Rattle.std.proofs.lemmas.Int.{to_z-of_z}
use Rattle.std.proofs.lemmas.List.{length-map}
use Rattle.std.proofs.lemmas.List.FromFn.{length-map-range_with_len}
use Rattle.dd_views.specs.Positions.{position_in}
use Rattle.dd_blocks.specs.Grids.{element_count}
use Rattle.dd_blocks.specs.Numbered.{array_row}
use Rattle.dd_transfers.specs.Visits.{ElementVisit, visit_at}
use Rattle.dd_blocks.proofs.LayoutLemmas.{grid_stands}
use Rattle.dd_transfers.proofs.VisitsLemmas.{next_position, visited_few, visited_position}
use Rattle.dd_transfers.proofs.columns.visit_steps.Goals as goal

pub visit_element-moved-requires-clause-within : goal.visit_element-moved-requires-clause-within
visit_element-moved-requires-clause-within c = omega (arith, c.loop-i.invariant.here c.loop-i-test.true, c.requires.column.inside c.loop-i._i c.loop-i-test.true)

pub overflow_add-moved : goal.overflow_add-moved
overflow_add-moved c =
    let f : ℕ → ElementVisit = visit_at c.args.plan.now c.args.homes.now c.args.visit c.args.array in
    let before : List ℕ = map (position_in c.args.column) (range_with_len 0 c.loop-i._i) in
    let so_far = visited_few (map f before) c.args.marks.now c.loop-i.marks c.loop-i.moved c.loop-i.invariant.visited in
    let one = visited_few (f c.loop-i.pos ∷ []) c.loop-i.marks c.visit_element-moved.new.marks c.visit_element-moved.result c.visit_element-moved.ensures in
    let many = length-map before f ∙ length-map-range_with_len (position_in c.args.column) 0 c.loop-i._i in
    let small : c.args.column.count < 2 ^ 32 = search rules in
    omega (arith, so_far, one, many, c.loop-i-test.true, small)

pub loop-i-preserved : goal.loop-i-preserved
loop-i-preserved c =
    let f : ℕ → ElementVisit = visit_at c.args.plan.now c.args.homes.now c.args.visit c.args.array in
    let here = c.loop-i.invariant.here c.loop-i-test.true in
    let fits : FitsSigned w64 c.args.column.step = search rules in
    let step = ap (λ z. (c.loop-i.pos + cast_unsigned w64 z) % 2 ^ 64) (to_z-of_z w64 c.args.column.step fits) in
    let few = (grid_stands c.args.plan.now c.requires.well.layout c.args.array c.requires.array).few in
    record {
      here = λ more. c.wrapping_add_signed-pos.ensures ∙ step
          ∙ next_position (element_count (array_row c.args.plan.now c.args.array).grid) c.args.column c.loop-i._i c.loop-i.pos few c.requires.column here more;
      visited = visited_position f c.args.column c.loop-i._i c.loop-i.pos c.args.marks.now c.loop-i.marks c.visit_element-moved.new.marks c.loop-i.moved c.visit_element-moved.result
          here c.loop-i.invariant.visited c.visit_element-moved.ensures;
    }
