use Rattle.std.proofs.Common.{◌+◌, ◌<◌, ◌≤◌, Some, ap, sym, ◌∙◌, arith}
use Rattle.dd_blocks.specs.declared.array_row.ArrayRow.{ArrayRow}
use Rattle.dd_blocks.specs.Grids.{block_count}
use Rattle.dd_blocks.specs.Numbered.{array_row}
use Rattle.dd_owed.proofs.BlocksLemmas.{block_known}
use Rattle.dd_owed.proofs.PiecesLemmas.{get_range, get_range_past}
use Rattle.dd_owed.proofs.blocks.block_at.Goals as goal

pub returns-then-from-blocks-clause-value : goal.returns-then-from-blocks-clause-value
returns-then-from-blocks-clause-value c =
    let row = array_row c.args.plan.now c.args.array in
    let n = ap (λ (r : ArrayRow). block_count r.grid) c.array-row.ensures in
    let lt : c.args.i < block_count row.grid = omega (arith, c.if-from-blocks.true, c.from.ensures, c.blocks-2.ensures.value, n) in
    ap (λ (r : ArrayRow). Some (r.first_block + c.args.i)) c.array-row.ensures ∙ sym (get_range row.first_block (block_count row.grid) c.args.i lt)

pub returns-then-from-blocks-clause-known : goal.returns-then-from-blocks-clause-known
returns-then-from-blocks-clause-known c =
    let row = array_row c.args.plan.now c.args.array in
    let n = ap (λ (r : ArrayRow). block_count r.grid) c.array-row.ensures in
    let lt : c.args.i < block_count row.grid = omega (arith, c.if-from-blocks.true, c.from.ensures, c.blocks-2.ensures.value, n) in
    rw c.array-row.ensures (block_known c.args.plan.now c.args.array c.args.i c.requires.well c.requires.array lt)

pub returns-else-from-blocks-clause-value : goal.returns-else-from-blocks-clause-value
returns-else-from-blocks-clause-value c =
    let row = array_row c.args.plan.now c.args.array in
    let n = ap (λ (r : ArrayRow). block_count r.grid) c.array-row.ensures in
    let le : block_count row.grid ≤ c.args.i = omega (arith, c.if-from-blocks.false, c.from.ensures, c.blocks-2.ensures.value, n) in
    sym (get_range_past row.first_block (block_count row.grid) c.args.i le)
