use Rattle.std.proofs.Common.{◌∙◌, ap, arith}
use Rattle.dd_blocks.specs.declared.array_row.ArrayRow.{ArrayRow}
use Rattle.dd_transfers.proofs.ColumnsLemmas.{visited_piece}
use Rattle.dd_blocks.proofs.LayoutLemmas.{elements_within}
use Rattle.dd_transfers.proofs.columns.visit_run.Goals as goal

pub returns : goal.returns
returns c = λ homes have.
    let first = ap (λ (row : ArrayRow). row.first_element) c.array.ensures in
    let most = elements_within c.args.plan.now c.requires.well.layout c.args.array c.requires.array in
    visited_piece c.args.plan.now homes c.args.visit c.args.array c.args.pos c.args.run.len c.args.run.home c.array.result.now c.args.marks.now c.visit_marks-moved.new.marks c.from.result
    c.array.ensures (omega (arith, first, most, c.requires.within, c.requires.marks)) have c.visit_marks-moved.ensures.marks (c.from.ensures ∙ c.visit_marks-moved.ensures.moved)
