use Rattle.std.proofs.Common.{◌≡◌, ◌<◌, ◌≤◌, ◌/◌, ap, sym, ◌∙◌, arith}
use Rattle.dd_blocks.specs.declared.array_row.ArrayRow.{ArrayRow}
use Rattle.dd_blocks.specs.Grids.{block_cols, block_rows}
use Rattle.dd_blocks.specs.Numbered.{array_row}
use Rattle.dd_owed.proofs.BlocksLemmas.{by_rows, crossed, past_rows, some_wide}
use Rattle.dd_owed.proofs.blocks.block_by_rows_at.Goals as goal

pub overflow_mul-result : goal.overflow_mul-result
overflow_mul-result c =
    let plan = c.args.plan.now in
    let high : c.div_ceil-high.result ≡ block_rows (array_row plan c.args.array).grid = c.div_ceil-high.ensures ∙ ap (λ (r : ArrayRow). block_rows r.grid) c.array-row.ensures in
    let wide : c.div_ceil-wide.result ≡ block_cols (array_row plan c.args.array).grid = c.div_ceil-wide.ensures ∙ ap (λ (r : ArrayRow). block_cols r.grid) c.array-row.ensures in
    let lt : c.args.i / block_cols (array_row plan c.args.array).grid < block_rows (array_row plan c.args.array).grid = rw (high, wide) at c.if-i-wide.true in
    let is = crossed plan c.args.array c.args.i c.requires.well c.requires.array lt in
    rw (high, wide) (omega (arith, is.end))

pub overflow_add-result : goal.overflow_add-result
overflow_add-result c =
    let plan = c.args.plan.now in
    let high : c.div_ceil-high.result ≡ block_rows (array_row plan c.args.array).grid = c.div_ceil-high.ensures ∙ ap (λ (r : ArrayRow). block_rows r.grid) c.array-row.ensures in
    let wide : c.div_ceil-wide.result ≡ block_cols (array_row plan c.args.array).grid = c.div_ceil-wide.ensures ∙ ap (λ (r : ArrayRow). block_cols r.grid) c.array-row.ensures in
    let lt : c.args.i / block_cols (array_row plan c.args.array).grid < block_rows (array_row plan c.args.array).grid = rw (high, wide) at c.if-i-wide.true in
    let is = crossed plan c.args.array c.args.i c.requires.well c.requires.array lt in
    rw (high, wide) (omega (arith, is.end))

pub overflow_add-result-then-i-wide : goal.overflow_add-result-then-i-wide
overflow_add-result-then-i-wide c =
    let plan = c.args.plan.now in
    let high : c.div_ceil-high.result ≡ block_rows (array_row plan c.args.array).grid = c.div_ceil-high.ensures ∙ ap (λ (r : ArrayRow). block_rows r.grid) c.array-row.ensures in
    let wide : c.div_ceil-wide.result ≡ block_cols (array_row plan c.args.array).grid = c.div_ceil-wide.ensures ∙ ap (λ (r : ArrayRow). block_cols r.grid) c.array-row.ensures in
    let lt : c.args.i / block_cols (array_row plan c.args.array).grid < block_rows (array_row plan c.args.array).grid = rw (high, wide) at c.if-i-wide.true in
    let is = crossed plan c.args.array c.args.i c.requires.well c.requires.array lt in
    rw (high, wide, c.array-row.ensures) (omega (arith, is.end))

pub returns-then-i-wide-clause-value : goal.returns-then-i-wide-clause-value
returns-then-i-wide-clause-value c =
    let plan = c.args.plan.now in
    let high : c.div_ceil-high.result ≡ block_rows (array_row plan c.args.array).grid = c.div_ceil-high.ensures ∙ ap (λ (r : ArrayRow). block_rows r.grid) c.array-row.ensures in
    let wide : c.div_ceil-wide.result ≡ block_cols (array_row plan c.args.array).grid = c.div_ceil-wide.ensures ∙ ap (λ (r : ArrayRow). block_cols r.grid) c.array-row.ensures in
    let lt : c.args.i / block_cols (array_row plan c.args.array).grid < block_rows (array_row plan c.args.array).grid = rw (high, wide) at c.if-i-wide.true in
    let is = crossed plan c.args.array c.args.i c.requires.well c.requires.array lt in
    rw (high, wide, c.array-row.ensures) (sym (by_rows plan c.args.array c.args.i (some_wide plan c.args.array c.requires.well c.requires.array) lt))

pub returns-then-i-wide-clause-known : goal.returns-then-i-wide-clause-known
returns-then-i-wide-clause-known c =
    let plan = c.args.plan.now in
    let high : c.div_ceil-high.result ≡ block_rows (array_row plan c.args.array).grid = c.div_ceil-high.ensures ∙ ap (λ (r : ArrayRow). block_rows r.grid) c.array-row.ensures in
    let wide : c.div_ceil-wide.result ≡ block_cols (array_row plan c.args.array).grid = c.div_ceil-wide.ensures ∙ ap (λ (r : ArrayRow). block_cols r.grid) c.array-row.ensures in
    let lt : c.args.i / block_cols (array_row plan c.args.array).grid < block_rows (array_row plan c.args.array).grid = rw (high, wide) at c.if-i-wide.true in
    let is = crossed plan c.args.array c.args.i c.requires.well c.requires.array lt in
    rw (high, wide, c.array-row.ensures) is.known

pub returns-then-i-wide-clause-few : goal.returns-then-i-wide-clause-few
returns-then-i-wide-clause-few c =
    let plan = c.args.plan.now in
    let high : c.div_ceil-high.result ≡ block_rows (array_row plan c.args.array).grid = c.div_ceil-high.ensures ∙ ap (λ (r : ArrayRow). block_rows r.grid) c.array-row.ensures in
    let wide : c.div_ceil-wide.result ≡ block_cols (array_row plan c.args.array).grid = c.div_ceil-wide.ensures ∙ ap (λ (r : ArrayRow). block_cols r.grid) c.array-row.ensures in
    let lt : c.args.i / block_cols (array_row plan c.args.array).grid < block_rows (array_row plan c.args.array).grid = rw (high, wide) at c.if-i-wide.true in
    let is = crossed plan c.args.array c.args.i c.requires.well c.requires.array lt in
    is.few

pub returns-else-i-wide-clause-value : goal.returns-else-i-wide-clause-value
returns-else-i-wide-clause-value c =
    let plan = c.args.plan.now in
    let high : c.div_ceil-high.result ≡ block_rows (array_row plan c.args.array).grid = c.div_ceil-high.ensures ∙ ap (λ (r : ArrayRow). block_rows r.grid) c.array-row.ensures in
    let wide : c.div_ceil-wide.result ≡ block_cols (array_row plan c.args.array).grid = c.div_ceil-wide.ensures ∙ ap (λ (r : ArrayRow). block_cols r.grid) c.array-row.ensures in
    let le : block_rows (array_row plan c.args.array).grid ≤ c.args.i / block_cols (array_row plan c.args.array).grid = rw (high, wide) at c.if-i-wide.false in
    sym (past_rows plan c.args.array c.args.i (some_wide plan c.args.array c.requires.well c.requires.array) le)
