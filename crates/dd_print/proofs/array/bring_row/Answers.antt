-- Each block adds its columns, and the columns of all blocks of the row are those of the band.
use Rattle.std.proofs.Common.{◌≡◌, ◌<◌, ◌+◌, ◌*◌, ◌++◌, ℕ, ℤ, List, length, Bor, refl, ap, sym, ◌∙◌, subst, arith}
use Rattle.dd_blocks.specs.declared.array_row.ArrayRow.{ArrayRow}
use Rattle.dd_blocks.specs.declared.plan.Plan.{Plan}
use Rattle.dd_blocks.specs.Grids.{block_cols, block_rows}
use Rattle.dd_blocks.specs.Numbered.{array_row, block_row}
use Rattle.dd_blocks.proofs.LayoutLemmas.{grid_stands}
use Rattle.dd_core.specs.Due.{AreDue}
use Rattle.dd_machine.specs.Tests.{Has, is_any}
use Rattle.dd_machine.specs.Words.{IsOneOf, blocks}
use Rattle.dd_print.specs.Asks.{block_at, bring_events, bring_one, row_blocks}
use Rattle.dd_print.specs.Bands.{band_height}
use Rattle.dd_print.specs.Gives.{Breaks, PrintGives}
use Rattle.dd_print.specs.Held.{block_values}
use Rattle.dd_print.proofs.BandsLemmas.{band_all, band_more, band_none, band_to, block_is, block_known, columns_to, long_all, long_more, long_none}
use Rattle.dd_print.proofs.BreaksLemmas.{err_gives}
use Rattle.dd_print.proofs.BringLemmas.{telling_back}
use Rattle.dd_print.proofs.LoopsLemmas.{at_first, brought_at, many, next_breaks, next_due, next_more, next_there, next_values, row_events}
use Rattle.dd_statements.specs.Follows.{Follows}
use Rattle.dd_statements.proofs.LoopLemmas.{between, block_last}
use Rattle.dd_statements.proofs.WithinLemmas.{plan_kept}
use Rattle.dd_table.specs.Tables.{line_now, state_now}
use Rattle.dd_print.proofs.array.bring_row.Goals as goal

pub loop-j-init : goal.loop-j-init
loop-j-init g c =
    let t = c.args.table.now in
    let plan = t.holding.ledger.plan.now in
    let planned : c.plan.result.now ≡ plan = ap (λ (p : Bor Plan). p.now) c.plan.ensures in
    let row_is : c.array-row.result.now ≡ array_row plan c.args.array = c.array-row.ensures ∙ ap (λ (p : Plan). array_row p c.args.array) planned in
    let grid = (array_row plan c.args.array).grid in
    let end : c.div_ceil-j-end.result ≡ block_cols grid = c.div_ceil-j-end.ensures ∙ ap (λ (r : ArrayRow). block_cols r.grid) row_is in
    let at = block_at plan c.args.array c.args.i in (
      at_first t at 0 c.div_ceil-j-end.result (block_cols grid) 0 c.requires.between (end ∙ omega arith) refl (subst (AreDue plan (state_now t)) (row_events plan (state_now t) c.args.array c.args.i) c.requires.due),
      ap length c.clear.ensures.items ∙ long_none grid c.args.i,
      λ telling. c.clear.ensures.items ∙ sym (band_none plan (state_now t) c.args.array c.args.i),
    )

pub overflow_mul-j : goal.overflow_mul-j
overflow_mul-j g c =
    let t = c.args.table.now in
    let plan = t.holding.ledger.plan.now in
    let planned : c.plan.result.now ≡ plan = ap (λ (p : Bor Plan). p.now) c.plan.ensures in
    let row_is : c.array-row.result.now ≡ array_row plan c.args.array = c.array-row.ensures ∙ ap (λ (p : Plan). array_row p c.args.array) planned in
    let grid = (array_row plan c.args.array).grid in
    let end : c.div_ceil-j-end.result ≡ block_cols grid = c.div_ceil-j-end.ensures ∙ ap (λ (r : ArrayRow). block_cols r.grid) row_is in
    let below : c.div_ceil-below.result ≡ block_rows grid = c.div_ceil-below.ensures ∙ ap (λ (r : ArrayRow). block_rows r.grid) row_is in
    let col : c.loop-j.j < block_cols grid = omega (arith, end) in
    let same : c.array-row.result.now.first_block + c.loop-j.j * c.div_ceil-below.result + c.args.i ≡ block_at plan c.args.array c.args.i c.loop-j.j = block_is plan c.args.array c.args.i c.loop-j.j c.array-row.result.now.first_block c.div_ceil-below.result (ap (λ (r : ArrayRow). r.first_block) row_is) below in
    let known = block_known plan c.args.array c.args.i c.loop-j.j c.requires.well c.requires.array c.requires.within col in
    let few = known.few in
    omega (arith, same, few)

pub overflow_add-row : goal.overflow_add-row
overflow_add-row g c =
    let t = c.args.table.now in
    let plan = t.holding.ledger.plan.now in
    let planned : c.plan.result.now ≡ plan = ap (λ (p : Bor Plan). p.now) c.plan.ensures in
    let row_is : c.array-row.result.now ≡ array_row plan c.args.array = c.array-row.ensures ∙ ap (λ (p : Plan). array_row p c.args.array) planned in
    let grid = (array_row plan c.args.array).grid in
    let end : c.div_ceil-j-end.result ≡ block_cols grid = c.div_ceil-j-end.ensures ∙ ap (λ (r : ArrayRow). block_cols r.grid) row_is in
    let below : c.div_ceil-below.result ≡ block_rows grid = c.div_ceil-below.ensures ∙ ap (λ (r : ArrayRow). block_rows r.grid) row_is in
    let col : c.loop-j.j < block_cols grid = omega (arith, end) in
    let same : c.array-row.result.now.first_block + c.loop-j.j * c.div_ceil-below.result + c.args.i ≡ block_at plan c.args.array c.args.i c.loop-j.j = block_is plan c.args.array c.args.i c.loop-j.j c.array-row.result.now.first_block c.div_ceil-below.result (ap (λ (r : ArrayRow). r.first_block) row_is) below in
    let known = block_known plan c.args.array c.args.i c.loop-j.j c.requires.well c.requires.array c.requires.within col in
    let few = known.few in
    omega (arith, same, few)

pub overflow_add-row-in-loop-j : goal.overflow_add-row-in-loop-j
overflow_add-row-in-loop-j g c =
    let t = c.args.table.now in
    let plan = t.holding.ledger.plan.now in
    let planned : c.plan.result.now ≡ plan = ap (λ (p : Bor Plan). p.now) c.plan.ensures in
    let row_is : c.array-row.result.now ≡ array_row plan c.args.array = c.array-row.ensures ∙ ap (λ (p : Plan). array_row p c.args.array) planned in
    let grid = (array_row plan c.args.array).grid in
    let end : c.div_ceil-j-end.result ≡ block_cols grid = c.div_ceil-j-end.ensures ∙ ap (λ (r : ArrayRow). block_cols r.grid) row_is in
    let below : c.div_ceil-below.result ≡ block_rows grid = c.div_ceil-below.ensures ∙ ap (λ (r : ArrayRow). block_rows r.grid) row_is in
    let col : c.loop-j.j < block_cols grid = omega (arith, end) in
    let same : c.array-row.result.now.first_block + c.loop-j.j * c.div_ceil-below.result + c.args.i ≡ block_at plan c.args.array c.args.i c.loop-j.j = block_is plan c.args.array c.args.i c.loop-j.j c.array-row.result.now.first_block c.div_ceil-below.result (ap (λ (r : ArrayRow). r.first_block) row_is) below in
    let known = block_known plan c.args.array c.args.i c.loop-j.j c.requires.well c.requires.array c.requires.within col in
    let few = known.few in
    omega (arith, same, few)

pub bring_block-requires-clause-block : goal.bring_block-requires-clause-block
bring_block-requires-clause-block g c κs within =
    let t = c.args.table.now in
    let plan = t.holding.ledger.plan.now in
    let planned : c.plan.result.now ≡ plan = ap (λ (p : Bor Plan). p.now) c.plan.ensures in
    let row_is : c.array-row.result.now ≡ array_row plan c.args.array = c.array-row.ensures ∙ ap (λ (p : Plan). array_row p c.args.array) planned in
    let grid = (array_row plan c.args.array).grid in
    let end : c.div_ceil-j-end.result ≡ block_cols grid = c.div_ceil-j-end.ensures ∙ ap (λ (r : ArrayRow). block_cols r.grid) row_is in
    let below : c.div_ceil-below.result ≡ block_rows grid = c.div_ceil-below.ensures ∙ ap (λ (r : ArrayRow). block_rows r.grid) row_is in
    let col : c.loop-j.j < block_cols grid = omega (arith, end) in
    let same : c.array-row.result.now.first_block + c.loop-j.j * c.div_ceil-below.result + c.args.i ≡ block_at plan c.args.array c.args.i c.loop-j.j = block_is plan c.args.array c.args.i c.loop-j.j c.array-row.result.now.first_block c.div_ceil-below.result (ap (λ (r : ArrayRow). r.first_block) row_is) below in
    let known = block_known plan c.args.array c.args.i c.loop-j.j c.requires.well c.requires.array c.requires.within col in
    let m = c.loop-j.table in
    let kept = plan_kept t m (line_now t) (between (brought_at t (block_at plan c.args.array c.args.i)) 0 c.loop-j.j) c.loop-j.invariant.0.within.follows.adds in
    subst (λ (p : Plan). IsOneOf (blocks p) (c.array-row.result.now.first_block + c.loop-j.j * c.div_ceil-below.result + c.args.i)) (sym kept) (subst (IsOneOf (blocks plan)) (sym same) known.is)

pub bring_block-requires-clause-there : goal.bring_block-requires-clause-there
bring_block-requires-clause-there g c κs within =
    let t = c.args.table.now in
    let plan = t.holding.ledger.plan.now in
    let planned : c.plan.result.now ≡ plan = ap (λ (p : Bor Plan). p.now) c.plan.ensures in
    let row_is : c.array-row.result.now ≡ array_row plan c.args.array = c.array-row.ensures ∙ ap (λ (p : Plan). array_row p c.args.array) planned in
    let grid = (array_row plan c.args.array).grid in
    let end : c.div_ceil-j-end.result ≡ block_cols grid = c.div_ceil-j-end.ensures ∙ ap (λ (r : ArrayRow). block_cols r.grid) row_is in
    let below : c.div_ceil-below.result ≡ block_rows grid = c.div_ceil-below.ensures ∙ ap (λ (r : ArrayRow). block_rows r.grid) row_is in
    let col : c.loop-j.j < block_cols grid = omega (arith, end) in
    let same : c.array-row.result.now.first_block + c.loop-j.j * c.div_ceil-below.result + c.args.i ≡ block_at plan c.args.array c.args.i c.loop-j.j = block_is plan c.args.array c.args.i c.loop-j.j c.array-row.result.now.first_block c.div_ceil-below.result (ap (λ (r : ArrayRow). r.first_block) row_is) below in
    let known = block_known plan c.args.array c.args.i c.loop-j.j c.requires.well c.requires.array c.requires.within col in
    let m = c.loop-j.table in
    let lt : c.loop-j.j < c.div_ceil-j-end.result = omega arith in
    let at = block_at plan c.args.array c.args.i in
    next_there t m at 0 c.div_ceil-j-end.result c.loop-j.j (c.array-row.result.now.first_block + c.loop-j.j * c.div_ceil-below.result + c.args.i) lt same c.loop-j.invariant.0 (subst (λ (b : ℕ). Has (state_now t) ((state_now t).homes b) b is_any) (sym same) (c.requires.there (at c.loop-j.j) known.listed))

pub bring_block-requires-clause-due : goal.bring_block-requires-clause-due
bring_block-requires-clause-due g c κs within =
    let t = c.args.table.now in
    let plan = t.holding.ledger.plan.now in
    let planned : c.plan.result.now ≡ plan = ap (λ (p : Bor Plan). p.now) c.plan.ensures in
    let row_is : c.array-row.result.now ≡ array_row plan c.args.array = c.array-row.ensures ∙ ap (λ (p : Plan). array_row p c.args.array) planned in
    let grid = (array_row plan c.args.array).grid in
    let end : c.div_ceil-j-end.result ≡ block_cols grid = c.div_ceil-j-end.ensures ∙ ap (λ (r : ArrayRow). block_cols r.grid) row_is in
    let below : c.div_ceil-below.result ≡ block_rows grid = c.div_ceil-below.ensures ∙ ap (λ (r : ArrayRow). block_rows r.grid) row_is in
    let col : c.loop-j.j < block_cols grid = omega (arith, end) in
    let same : c.array-row.result.now.first_block + c.loop-j.j * c.div_ceil-below.result + c.args.i ≡ block_at plan c.args.array c.args.i c.loop-j.j = block_is plan c.args.array c.args.i c.loop-j.j c.array-row.result.now.first_block c.div_ceil-below.result (ap (λ (r : ArrayRow). r.first_block) row_is) below in
    let known = block_known plan c.args.array c.args.i c.loop-j.j c.requires.well c.requires.array c.requires.within col in
    let m = c.loop-j.table in
    let lt : c.loop-j.j < c.div_ceil-j-end.result = omega arith in
    let at = block_at plan c.args.array c.args.i in
    next_due t m at 0 c.div_ceil-j-end.result c.loop-j.j (c.array-row.result.now.first_block + c.loop-j.j * c.div_ceil-below.result + c.args.i) lt same c.loop-j.invariant.0

pub returns-in_err-bring_block-clause-entries : goal.returns-in_err-bring_block-clause-entries
returns-in_err-bring_block-clause-entries g c =
    let t = c.args.table.now in
    let plan = t.holding.ledger.plan.now in
    let planned : c.plan.result.now ≡ plan = ap (λ (p : Bor Plan). p.now) c.plan.ensures in
    let row_is : c.array-row.result.now ≡ array_row plan c.args.array = c.array-row.ensures ∙ ap (λ (p : Plan). array_row p c.args.array) planned in
    let grid = (array_row plan c.args.array).grid in
    let end : c.div_ceil-j-end.result ≡ block_cols grid = c.div_ceil-j-end.ensures ∙ ap (λ (r : ArrayRow). block_cols r.grid) row_is in
    let below : c.div_ceil-below.result ≡ block_rows grid = c.div_ceil-below.ensures ∙ ap (λ (r : ArrayRow). block_rows r.grid) row_is in
    let col : c.loop-j.j < block_cols grid = omega (arith, end) in
    let same : c.array-row.result.now.first_block + c.loop-j.j * c.div_ceil-below.result + c.args.i ≡ block_at plan c.args.array c.args.i c.loop-j.j = block_is plan c.args.array c.args.i c.loop-j.j c.array-row.result.now.first_block c.div_ceil-below.result (ap (λ (r : ArrayRow). r.first_block) row_is) below in
    let known = block_known plan c.args.array c.args.i c.loop-j.j c.requires.well c.requires.array c.requires.within col in
    let m = c.loop-j.table in
    let lt : c.loop-j.j < c.div_ceil-j-end.result = omega arith in
    let at = block_at plan c.args.array c.args.i in
    let u = c.bring_block.new.table in
    let events : between (brought_at t at) 0 c.div_ceil-j-end.result ≡ bring_events (state_now t) (row_blocks plan c.args.array c.args.i) =
    many (brought_at t at) 0 c.div_ceil-j-end.result (block_cols grid) (end ∙ omega arith) ∙ sym (row_events plan (state_now t) c.args.array c.args.i) in
    let breaks = next_breaks t m at 0 c.div_ceil-j-end.result c.loop-j.j (c.array-row.result.now.first_block + c.loop-j.j * c.div_ceil-below.result + c.args.i) lt same c.loop-j.invariant.0 u c.in_err-bring_block.field-0.0 c.in_err-bring_block.ensures.entries in
    err_gives (λ r. PrintGives t u (line_now t) (bring_events (state_now t) (row_blocks plan c.args.array c.args.i)) r) c.from_residual.result c.in_err-bring_block.field-0.0 c.from_residual.ensures.1
    (subst (λ l. Breaks t u (line_now t) l c.in_err-bring_block.field-0.0) events breaks)

pub loop-j-preserved : goal.loop-j-preserved
loop-j-preserved g c =
    let t = c.args.table.now in
    let plan = t.holding.ledger.plan.now in
    let planned : c.plan.result.now ≡ plan = ap (λ (p : Bor Plan). p.now) c.plan.ensures in
    let row_is : c.array-row.result.now ≡ array_row plan c.args.array = c.array-row.ensures ∙ ap (λ (p : Plan). array_row p c.args.array) planned in
    let grid = (array_row plan c.args.array).grid in
    let end : c.div_ceil-j-end.result ≡ block_cols grid = c.div_ceil-j-end.ensures ∙ ap (λ (r : ArrayRow). block_cols r.grid) row_is in
    let below : c.div_ceil-below.result ≡ block_rows grid = c.div_ceil-below.ensures ∙ ap (λ (r : ArrayRow). block_rows r.grid) row_is in
    let col : c.loop-j.j < block_cols grid = omega (arith, end) in
    let same : c.array-row.result.now.first_block + c.loop-j.j * c.div_ceil-below.result + c.args.i ≡ block_at plan c.args.array c.args.i c.loop-j.j = block_is plan c.args.array c.args.i c.loop-j.j c.array-row.result.now.first_block c.div_ceil-below.result (ap (λ (r : ArrayRow). r.first_block) row_is) below in
    let known = block_known plan c.args.array c.args.i c.loop-j.j c.requires.well c.requires.array c.requires.within col in
    let m = c.loop-j.table in
    let lt : c.loop-j.j < c.div_ceil-j-end.result = omega arith in
    let at = block_at plan c.args.array c.args.i in
    let u = c.bring_block.new.table in
    let kept = plan_kept t m (line_now t) (between (brought_at t at) 0 c.loop-j.j) c.loop-j.invariant.0.within.follows.adds in
    let size : (block_row m.holding.ledger.plan.now (c.array-row.result.now.first_block + c.loop-j.j * c.div_ceil-below.result + c.args.i)).size ≡ (block_row plan (at c.loop-j.j)).size = ap (λ (p : Plan). (block_row p (c.array-row.result.now.first_block + c.loop-j.j * c.div_ceil-below.result + c.args.i)).size) kept ∙ ap (λ (b : ℕ). (block_row plan b).size) same in (
      next_more t m at 0 c.div_ceil-j-end.result c.loop-j.j (c.array-row.result.now.first_block + c.loop-j.j * c.div_ceil-below.result + c.args.i) lt same c.loop-j.invariant.0 u c.in_ok-bring_block.ensures.entries,
      c.in_ok-bring_block.ensures.filled ∙ ap (λ (n : ℕ). length c.loop-j.band.items + n) size
          ∙ long_more plan c.args.array c.args.i c.loop-j.j (length c.loop-j.band.items) c.requires.well c.requires.array c.requires.within col c.loop-j.invariant.1,
      λ telling.
          c.in_ok-bring_block.ensures.told telling
          ∙ ap (λ (l : List ℤ). l ++ block_values m.holding.ledger.plan.now (state_now m) (c.array-row.result.now.first_block + c.loop-j.j * c.div_ceil-below.result + c.args.i)) (c.loop-j.invariant.2 (telling_back m u (line_now m) (bring_one (state_now m) (c.array-row.result.now.first_block + c.loop-j.j * c.div_ceil-below.result + c.args.i)) c.in_ok-bring_block.ensures.entries.adds telling))
          ∙ ap (λ (l : List ℤ). band_to plan (state_now t) c.args.array c.args.i c.loop-j.j ++ l) (next_values t m at 0 c.div_ceil-j-end.result c.loop-j.j (c.array-row.result.now.first_block + c.loop-j.j * c.div_ceil-below.result + c.args.i) lt same c.loop-j.invariant.0)
          ∙ band_more plan (state_now t) c.args.array c.args.i c.loop-j.j c.requires.well c.requires.array c.requires.within col,
    )

pub returns-clause-entries : goal.returns-clause-entries
returns-clause-entries g c =
    let t = c.args.table.now in
    let plan = t.holding.ledger.plan.now in
    let planned : c.plan.result.now ≡ plan = ap (λ (p : Bor Plan). p.now) c.plan.ensures in
    let row_is : c.array-row.result.now ≡ array_row plan c.args.array = c.array-row.ensures ∙ ap (λ (p : Plan). array_row p c.args.array) planned in
    let grid = (array_row plan c.args.array).grid in
    let end : c.div_ceil-j-end.result ≡ block_cols grid = c.div_ceil-j-end.ensures ∙ ap (λ (r : ArrayRow). block_cols r.grid) row_is in
    let m = c.loop-j.table in
    let at = block_at plan c.args.array c.args.i in
    let all : c.loop-j.j ≡ c.div_ceil-j-end.result = omega arith in
    let events : between (brought_at t at) 0 c.div_ceil-j-end.result ≡ bring_events (state_now t) (row_blocks plan c.args.array c.args.i) =
    many (brought_at t at) 0 c.div_ceil-j-end.result (block_cols grid) (end ∙ omega arith) ∙ sym (row_events plan (state_now t) c.args.array c.args.i) in
    subst (Follows t m (line_now t)) events (block_last t m (brought_at t at) 0 c.div_ceil-j-end.result c.loop-j.j all c.loop-j.invariant.0)

pub returns-clause-filled : goal.returns-clause-filled
returns-clause-filled g c =
    let t = c.args.table.now in
    let plan = t.holding.ledger.plan.now in
    let planned : c.plan.result.now ≡ plan = ap (λ (p : Bor Plan). p.now) c.plan.ensures in
    let row_is : c.array-row.result.now ≡ array_row plan c.args.array = c.array-row.ensures ∙ ap (λ (p : Plan). array_row p c.args.array) planned in
    let grid = (array_row plan c.args.array).grid in
    let end : c.div_ceil-j-end.result ≡ block_cols grid = c.div_ceil-j-end.ensures ∙ ap (λ (r : ArrayRow). block_cols r.grid) row_is in
    let all : c.loop-j.j ≡ block_cols grid = omega (arith, end) in
    long_all grid c.args.i (length c.loop-j.band.items) (grid_stands plan c.requires.well.layout c.args.array c.requires.array)
    (subst (λ (j : ℕ). length c.loop-j.band.items ≡ columns_to grid j * band_height grid c.args.i) all c.loop-j.invariant.1)

pub returns-clause-told : goal.returns-clause-told
returns-clause-told g c = λ telling.
    let t = c.args.table.now in
    let plan = t.holding.ledger.plan.now in
    let planned : c.plan.result.now ≡ plan = ap (λ (p : Bor Plan). p.now) c.plan.ensures in
    let row_is : c.array-row.result.now ≡ array_row plan c.args.array = c.array-row.ensures ∙ ap (λ (p : Plan). array_row p c.args.array) planned in
    let grid = (array_row plan c.args.array).grid in
    let end : c.div_ceil-j-end.result ≡ block_cols grid = c.div_ceil-j-end.ensures ∙ ap (λ (r : ArrayRow). block_cols r.grid) row_is in
    let all : c.loop-j.j ≡ block_cols grid = omega (arith, end) in
    c.loop-j.invariant.2 telling ∙ ap (band_to plan (state_now t) c.args.array c.args.i) all ∙ band_all plan (state_now t) c.args.array c.args.i c.requires.well c.requires.array c.requires.within
