-- Each row of blocks prints its rows of the array, as far as the sink takes them.
use Rattle.std.proofs.Common.{◌≡◌, ◌<◌, ◌+◌, ℕ, List, length, Bor, None, Err, Ok, refl, ap, sym, ◌∙◌, subst, arith}
use Rattle.std.proofs.lemmas.List.FromFn.{length-map-range_with_len}
use Rattle.dd_blocks.specs.declared.array_row.ArrayRow.{ArrayRow}
use Rattle.dd_blocks.specs.declared.plan.Plan.{Plan}
use Rattle.dd_blocks.specs.Grids.{block_rows, element_count}
use Rattle.dd_blocks.specs.Numbered.{array_row}
use Rattle.dd_blocks.proofs.LayoutLemmas.{grid_stands}
use Rattle.dd_causes.specs.Appended.{AppendsAllBut}
use Rattle.dd_causes.proofs.AppendedLemmas.{all_but_more, all_but_start}
use Rattle.dd_meaning.specs.Text.{printed}
use Rattle.dd_print.specs.Asks.{print_events}
use Rattle.dd_print.specs.Bands.{band_grid, band_values}
use Rattle.dd_print.specs.declared.fault.PrintFault.TheVariants.{Memory}
use Rattle.dd_print.specs.Gives.{Breaks, PrintGives}
use Rattle.dd_print.specs.Held.{IsTelling, values_now}
use Rattle.dd_print.specs.Writes.{WritesWhere}
use Rattle.dd_print.proofs.BlocksLemmas.{value_of}
use Rattle.dd_print.proofs.BreaksLemmas.{breaks_first, breaks_kept, err_gives, no_memory, no_write, no_write_memory}
use Rattle.dd_print.proofs.BringLemmas.{telling_back}
use Rattle.dd_print.proofs.LoopsLemmas.{many, print_rows, row_breaks, row_due, row_first, row_more, row_text, row_there, rows_at}
use Rattle.dd_print.proofs.RowsLemmas.{rows_all, rows_front, text_end, text_from, text_next, text_start}
use Rattle.dd_print.proofs.WritesLemmas.{writes_none}
use Rattle.dd_statements.specs.Follows.{Follows}
use Rattle.dd_statements.proofs.LoopLemmas.{between, block_last}
use Rattle.dd_table.specs.Tables.{line_now, state_now}
use Rattle.dd_print.proofs.array.print_array.Goals as goal

pub returns-in-Some-clause-entries : goal.returns-in-Some-clause-entries
returns-in-Some-clause-entries g c =
    let t = c.args.table.now in
    let events = print_events t.holding.ledger.plan.now (state_now t) c.args.array in
    subst (Breaks t t (line_now t) events) (sym c.into.ensures) (breaks_kept t (line_now t) events c.in-Some.cause (sym c.cause.ensures ∙ c.in-Some.is))

pub returns-in-Some-clause-written : goal.returns-in-Some-clause-written
returns-in-Some-clause-written g c =
    let t = c.args.table.now in
    writes_none (IsTelling t) (printed (array_row t.holding.ledger.plan.now c.args.array).grid (values_now t.holding.ledger.plan.now (state_now t) c.args.array)) (Err c.into.result) c.into.result (g.O.Sink.taken c.args.out.now) (g.O.Sink.faults c.args.out.now)
    refl (λ e. no_write c.in-Some.cause (sym c.into.ensures ∙ e))

pub returns-in_err-with_capacity-clause-entries : goal.returns-in_err-with_capacity-clause-entries
returns-in_err-with_capacity-clause-entries g c =
    let t = c.args.table.now in
    let events = print_events t.holding.ledger.plan.now (state_now t) c.args.array in
    err_gives (λ r. PrintGives t t (line_now t) events r) c.from_residual.result Memory c.from_residual.ensures.1
    (breaks_first t (line_now t) events Memory (sym c.cause.ensures ∙ c.in_default.is) no_memory)

pub returns-in_err-with_capacity-clause-written : goal.returns-in_err-with_capacity-clause-written
returns-in_err-with_capacity-clause-written g c =
    let t = c.args.table.now in
    writes_none (IsTelling t) (printed (array_row t.holding.ledger.plan.now c.args.array).grid (values_now t.holding.ledger.plan.now (state_now t) c.args.array)) c.from_residual.result Memory (g.O.Sink.taken c.args.out.now) (g.O.Sink.faults c.args.out.now)
    c.from_residual.ensures.1 no_write_memory

pub loop-i-init : goal.loop-i-init
loop-i-init g c =
    let t = c.args.table.now in
    let plan = t.holding.ledger.plan.now in
    let planned : c.plan.result.now ≡ plan = ap (λ (p : Bor Plan). p.now) c.plan.ensures in
    let row_is : c.array.result.now ≡ array_row plan c.args.array = c.array.ensures ∙ ap (λ (p : Plan). array_row p c.args.array) planned in
    let row = array_row plan c.args.array in
    let values = values_now plan (state_now t) c.args.array in
    let end : c.div_ceil-i-end.result ≡ block_rows row.grid = c.div_ceil-i-end.ensures ∙ ap (λ (r : ArrayRow). block_rows r.grid) row_is in
    let none : t.cause ≡ None = sym c.cause.ensures ∙ c.in_default.is in
    let taken = g.O.Sink.taken c.args.out.now in (
      row_first t c.args.array 0 c.div_ceil-i-end.result (c.requires.between none) (end ∙ omega arith) refl (c.requires.due none),
      (λ telling. subst (λ (l : List ℕ). AppendsAllBut taken taken l (printed row.grid values)) (text_start row.grid values) (all_but_start taken (printed row.grid values))),
      refl,
    )

pub print_row_of_blocks-requires-clause-there : goal.print_row_of_blocks-requires-clause-there
print_row_of_blocks-requires-clause-there g c κs within =
    let t = c.args.table.now in
    let plan = t.holding.ledger.plan.now in
    let planned : c.plan.result.now ≡ plan = ap (λ (p : Bor Plan). p.now) c.plan.ensures in
    let row_is : c.array.result.now ≡ array_row plan c.args.array = c.array.ensures ∙ ap (λ (p : Plan). array_row p c.args.array) planned in
    let row = array_row plan c.args.array in
    let values = values_now plan (state_now t) c.args.array in
    let end : c.div_ceil-i-end.result ≡ block_rows row.grid = c.div_ceil-i-end.ensures ∙ ap (λ (r : ArrayRow). block_rows r.grid) row_is in
    let none : t.cause ≡ None = sym c.cause.ensures ∙ c.in_default.is in
    let m = c.loop-i.table in
    let i = c.loop-i.i in
    let lt : i < c.div_ceil-i-end.result = omega arith in
    let low : i < block_rows row.grid = omega (arith, end, lt) in
    let here = c.loop-i.invariant.0 in
    row_there t m c.args.array c.div_ceil-i-end.result i c.requires.well c.requires.array lt here (c.requires.there none)

pub print_row_of_blocks-requires-clause-due : goal.print_row_of_blocks-requires-clause-due
print_row_of_blocks-requires-clause-due g c κs within =
    let t = c.args.table.now in
    let plan = t.holding.ledger.plan.now in
    let planned : c.plan.result.now ≡ plan = ap (λ (p : Bor Plan). p.now) c.plan.ensures in
    let row_is : c.array.result.now ≡ array_row plan c.args.array = c.array.ensures ∙ ap (λ (p : Plan). array_row p c.args.array) planned in
    let row = array_row plan c.args.array in
    let values = values_now plan (state_now t) c.args.array in
    let end : c.div_ceil-i-end.result ≡ block_rows row.grid = c.div_ceil-i-end.ensures ∙ ap (λ (r : ArrayRow). block_rows r.grid) row_is in
    let none : t.cause ≡ None = sym c.cause.ensures ∙ c.in_default.is in
    let m = c.loop-i.table in
    let i = c.loop-i.i in
    let lt : i < c.div_ceil-i-end.result = omega arith in
    let low : i < block_rows row.grid = omega (arith, end, lt) in
    let here = c.loop-i.invariant.0 in
    row_due t m c.args.array c.div_ceil-i-end.result i c.requires.well c.requires.array lt here

pub returns-in_err-print_row_of_blocks-clause-entries : goal.returns-in_err-print_row_of_blocks-clause-entries
returns-in_err-print_row_of_blocks-clause-entries g c =
    let t = c.args.table.now in
    let plan = t.holding.ledger.plan.now in
    let planned : c.plan.result.now ≡ plan = ap (λ (p : Bor Plan). p.now) c.plan.ensures in
    let row_is : c.array.result.now ≡ array_row plan c.args.array = c.array.ensures ∙ ap (λ (p : Plan). array_row p c.args.array) planned in
    let row = array_row plan c.args.array in
    let values = values_now plan (state_now t) c.args.array in
    let end : c.div_ceil-i-end.result ≡ block_rows row.grid = c.div_ceil-i-end.ensures ∙ ap (λ (r : ArrayRow). block_rows r.grid) row_is in
    let none : t.cause ≡ None = sym c.cause.ensures ∙ c.in_default.is in
    let m = c.loop-i.table in
    let i = c.loop-i.i in
    let lt : i < c.div_ceil-i-end.result = omega arith in
    let low : i < block_rows row.grid = omega (arith, end, lt) in
    let here = c.loop-i.invariant.0 in
    let u = c.print_row_of_blocks.new.table in
    let fault = c.in_err-print_row_of_blocks.field-0.0 in
    let events : between (rows_at t c.args.array) 0 c.div_ceil-i-end.result ≡ print_events plan (state_now t) c.args.array =
    many (rows_at t c.args.array) 0 c.div_ceil-i-end.result (block_rows row.grid) (end ∙ omega arith) ∙ sym (print_rows plan (state_now t) c.args.array) in
    err_gives (λ r. PrintGives t u (line_now t) (print_events plan (state_now t) c.args.array) r) c.from_residual-in_err-print_row_of_blocks.result fault c.from_residual-in_err-print_row_of_blocks.ensures.1
    (subst (λ l. Breaks t u (line_now t) l fault) events (row_breaks t m c.args.array c.div_ceil-i-end.result i c.requires.well c.requires.array lt here u fault c.in_err-print_row_of_blocks.ensures.entries))

pub returns-in_err-print_row_of_blocks-clause-written : goal.returns-in_err-print_row_of_blocks-clause-written
returns-in_err-print_row_of_blocks-clause-written g c =
    let t = c.args.table.now in
    let plan = t.holding.ledger.plan.now in
    let planned : c.plan.result.now ≡ plan = ap (λ (p : Bor Plan). p.now) c.plan.ensures in
    let row_is : c.array.result.now ≡ array_row plan c.args.array = c.array.ensures ∙ ap (λ (p : Plan). array_row p c.args.array) planned in
    let row = array_row plan c.args.array in
    let values = values_now plan (state_now t) c.args.array in
    let end : c.div_ceil-i-end.result ≡ block_rows row.grid = c.div_ceil-i-end.ensures ∙ ap (λ (r : ArrayRow). block_rows r.grid) row_is in
    let none : t.cause ≡ None = sym c.cause.ensures ∙ c.in_default.is in
    let m = c.loop-i.table in
    let i = c.loop-i.i in
    let lt : i < c.div_ceil-i-end.result = omega arith in
    let low : i < block_rows row.grid = omega (arith, end, lt) in
    let here = c.loop-i.invariant.0 in
    let u = c.print_row_of_blocks.new.table in
    let piece = printed (band_grid row.grid i) (band_values row.grid i values) in
    let grid = grid_stands plan c.requires.well.layout c.args.array c.requires.array in
    let long : length values ≡ element_count row.grid = length-map-range_with_len (value_of plan (state_now t) c.args.array) 0 (element_count row.grid) in
    let next = text_next row.grid values i grid low long in
    let fault = c.in_err-print_row_of_blocks.field-0.0 in
    let broke = c.in_err-print_row_of_blocks.ensures.entries in
    let written = subst (λ (w : List ℕ). WritesWhere (IsTelling u) w (Err fault) (g.O.Sink.taken c.loop-i.out) (g.O.Sink.taken c.print_row_of_blocks.new.out) (g.O.Sink.faults c.loop-i.out) (g.O.Sink.faults c.print_row_of_blocks.new.out))
    (row_text t m c.args.array c.div_ceil-i-end.result i c.requires.well c.requires.array lt here) c.in_err-print_row_of_blocks.ensures.written in
    rows_front (IsTelling u) piece (text_from row.grid values i) (text_from row.grid values (i + 1)) (printed row.grid values) c.from_residual-in_err-print_row_of_blocks.result fault
    (g.O.Sink.taken c.args.out.now) (g.O.Sink.taken c.loop-i.out) (g.O.Sink.taken c.print_row_of_blocks.new.out) (g.O.Sink.faults c.args.out.now) (g.O.Sink.faults c.loop-i.out) (g.O.Sink.faults c.print_row_of_blocks.new.out)
    c.from_residual-in_err-print_row_of_blocks.ensures.1 next (λ telling. c.loop-i.invariant.1 (telling_back m u (line_now m) broke.done broke.adds telling)) c.loop-i.invariant.2 written

pub loop-i-preserved : goal.loop-i-preserved
loop-i-preserved g c =
    let t = c.args.table.now in
    let plan = t.holding.ledger.plan.now in
    let planned : c.plan.result.now ≡ plan = ap (λ (p : Bor Plan). p.now) c.plan.ensures in
    let row_is : c.array.result.now ≡ array_row plan c.args.array = c.array.ensures ∙ ap (λ (p : Plan). array_row p c.args.array) planned in
    let row = array_row plan c.args.array in
    let values = values_now plan (state_now t) c.args.array in
    let end : c.div_ceil-i-end.result ≡ block_rows row.grid = c.div_ceil-i-end.ensures ∙ ap (λ (r : ArrayRow). block_rows r.grid) row_is in
    let none : t.cause ≡ None = sym c.cause.ensures ∙ c.in_default.is in
    let m = c.loop-i.table in
    let i = c.loop-i.i in
    let lt : i < c.div_ceil-i-end.result = omega arith in
    let low : i < block_rows row.grid = omega (arith, end, lt) in
    let here = c.loop-i.invariant.0 in
    let u = c.print_row_of_blocks.new.table in
    let piece = printed (band_grid row.grid i) (band_values row.grid i values) in
    let grid = grid_stands plan c.requires.well.layout c.args.array c.requires.array in
    let long : length values ≡ element_count row.grid = length-map-range_with_len (value_of plan (state_now t) c.args.array) 0 (element_count row.grid) in
    let next = text_next row.grid values i grid low long in
    let follows = c.in_ok-print_row_of_blocks.ensures.entries in
    let written = subst (λ (w : List ℕ). WritesWhere (IsTelling u) w (Ok tt) (g.O.Sink.taken c.loop-i.out) (g.O.Sink.taken c.print_row_of_blocks.new.out) (g.O.Sink.faults c.loop-i.out) (g.O.Sink.faults c.print_row_of_blocks.new.out))
    (row_text t m c.args.array c.div_ceil-i-end.result i c.requires.well c.requires.array lt here) c.in_ok-print_row_of_blocks.ensures.written in (
      row_more t m c.args.array c.div_ceil-i-end.result i c.requires.well c.requires.array lt here u follows,
      (λ telling. all_but_more (c.loop-i.invariant.1 (telling_back m u (line_now m) (rows_at m c.args.array i) follows.adds telling)) piece (text_from row.grid values (i + 1)) next (written.all telling)),
      written.kept (λ e. absurd (cc)) ∙ c.loop-i.invariant.2,
    )

pub returns-clause-entries : goal.returns-clause-entries
returns-clause-entries g c =
    let t = c.args.table.now in
    let plan = t.holding.ledger.plan.now in
    let planned : c.plan.result.now ≡ plan = ap (λ (p : Bor Plan). p.now) c.plan.ensures in
    let row_is : c.array.result.now ≡ array_row plan c.args.array = c.array.ensures ∙ ap (λ (p : Plan). array_row p c.args.array) planned in
    let row = array_row plan c.args.array in
    let values = values_now plan (state_now t) c.args.array in
    let end : c.div_ceil-i-end.result ≡ block_rows row.grid = c.div_ceil-i-end.ensures ∙ ap (λ (r : ArrayRow). block_rows r.grid) row_is in
    let m = c.loop-i.table in
    let all : c.loop-i.i ≡ c.div_ceil-i-end.result = omega arith in
    let events : between (rows_at t c.args.array) 0 c.div_ceil-i-end.result ≡ print_events plan (state_now t) c.args.array =
    many (rows_at t c.args.array) 0 c.div_ceil-i-end.result (block_rows row.grid) (end ∙ omega arith) ∙ sym (print_rows plan (state_now t) c.args.array) in
    subst (Follows t m (line_now t)) events (block_last t m (rows_at t c.args.array) 0 c.div_ceil-i-end.result c.loop-i.i all c.loop-i.invariant.0)

pub returns-clause-written : goal.returns-clause-written
returns-clause-written g c =
    let t = c.args.table.now in
    let plan = t.holding.ledger.plan.now in
    let planned : c.plan.result.now ≡ plan = ap (λ (p : Bor Plan). p.now) c.plan.ensures in
    let row_is : c.array.result.now ≡ array_row plan c.args.array = c.array.ensures ∙ ap (λ (p : Plan). array_row p c.args.array) planned in
    let row = array_row plan c.args.array in
    let values = values_now plan (state_now t) c.args.array in
    let end : c.div_ceil-i-end.result ≡ block_rows row.grid = c.div_ceil-i-end.ensures ∙ ap (λ (r : ArrayRow). block_rows r.grid) row_is in
    let all : c.loop-i.i ≡ block_rows row.grid = omega (arith, end) in
    rows_all (IsTelling c.loop-i.table) (text_from row.grid values c.loop-i.i) (printed row.grid values) (g.O.Sink.taken c.args.out.now) (g.O.Sink.taken c.loop-i.out) (g.O.Sink.faults c.args.out.now) (g.O.Sink.faults c.loop-i.out)
    (ap (text_from row.grid values) all ∙ text_end row.grid values (grid_stands plan c.requires.well.layout c.args.array c.requires.array)) c.loop-i.invariant.1 c.loop-i.invariant.2
