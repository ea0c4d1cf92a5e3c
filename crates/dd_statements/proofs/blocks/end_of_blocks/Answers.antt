use Rattle.std.proofs.Common.{ap, arith}
use Rattle.dd_blocks.specs.declared.array_row.ArrayRow.{ArrayRow}
use Rattle.dd_blocks.specs.Grids.{block_count}
use Rattle.dd_blocks.proofs.LayoutLemmas.{all_blocks, blocks_within}
use Rattle.dd_statements.proofs.blocks.end_of_blocks.Goals as goal

pub returns-clause-within : goal.returns-clause-within
returns-clause-within c =
    let plan = c.args.plan.now in
    let layout = c.requires.well.layout in
    let first = ap (λ (r : ArrayRow). r.first_block) c.array-row.ensures in
    let count = ap (λ (r : ArrayRow). block_count r.grid) c.array-row.ensures in
    omega (arith, blocks_within plan layout c.args.array c.requires.array, all_blocks plan layout, first, count, c.blocks-2.ensures.value)
