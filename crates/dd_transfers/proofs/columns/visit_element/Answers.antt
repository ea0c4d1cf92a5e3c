use Rattle.std.proofs.Common.{◌+◌, ap, ◌∙◌, arith, add-zero}
use Rattle.dd_blocks.specs.declared.array_row.ArrayRow.{ArrayRow}
use Rattle.dd_transfers.proofs.LayoutLemmas.{element_at}
use Rattle.dd_transfers.proofs.columns.visit_element.Goals as goal

pub overflow_add-at : goal.overflow_add-at
overflow_add-at c =
    omega (arith, element_at c.args.plan.now c.requires.well.layout c.args.array c.args.pos c.array.result.now c.requires.array c.array.ensures c.requires.within, c.requires.well.limits.elements)

pub bounds-marks-at : goal.bounds-marks-at
bounds-marks-at c =
    omega (arith, element_at c.args.plan.now c.requires.well.layout c.args.array c.args.pos c.array.result.now c.requires.array c.array.ensures c.requires.within, c.requires.marks)

pub bounds-marks-at-2 : goal.bounds-marks-at-2
bounds-marks-at-2 c =
    omega (arith, element_at c.args.plan.now c.requires.well.layout c.args.array c.args.pos c.array.result.now c.requires.array c.array.ensures c.requires.within, c.requires.marks)

pub returns : goal.returns
returns c =
    let at = ap (λ (r : ArrayRow). r.first_element + c.args.pos) c.array.ensures in
    let mark = c.after_visit-seen.ensures.mark ∙ c.home_for-home.ensures.same.after in
    let moved = c.after_visit-seen.ensures.moved ∙ c.home_for-home.ensures.same.moves in
    record {
      marks = cc (at, mark);
      count = cc (at, moved, add-zero c.after_visit-seen.result.moved);
    }
