use Rattle.std.proofs.Common.{ap, arith}
use Rattle.dd_blocks.specs.declared.array_row.ArrayRow.{ArrayRow}
use Rattle.dd_history.proofs.RowsLemmas.{in_last}
use Rattle.dd_history.proofs.rows.array_of.Goals as goal

pub returns-clause-within : goal.returns-clause-within
returns-clause-within c =
    let last = in_last c.args.plan.now c.loop-array.array c.args.element c.requires.well.layout c.loop-array.invariant.0 c.loop-array.invariant.1 in
    let row = ap (λ (r : ArrayRow). r.first_element) c.array.ensures in
    omega (arith, last.end, row, c.loop-array-test.false)
