-- Where a block wasn't brought nothing is written; where the text failed all were brought.
use Rattle.std.proofs.Common.{Err, ap}
use Rattle.dd_blocks.specs.Numbered.{array_row}
use Rattle.dd_meaning.specs.Text.{printed}
use Rattle.dd_print.specs.Asks.{bring_events, row_blocks}
use Rattle.dd_print.specs.Bands.{band_grid, band_values}
use Rattle.dd_print.specs.Causes.{of_text}
use Rattle.dd_print.specs.Gives.{PrintGives}
use Rattle.dd_print.specs.Held.{IsTelling, values_now}
use Rattle.dd_print.proofs.BreaksLemmas.{breaks_behind, err_gives, no_disk}
use Rattle.dd_print.proofs.WritesLemmas.{writes_none}
use Rattle.dd_table.specs.Tables.{line_now, state_now}
use Rattle.dd_print.proofs.array.print_row_of_blocks.Goals as goal

pub returns-in_err-bring_row-clause-written : goal.returns-in_err-bring_row-clause-written
returns-in_err-bring_row-clause-written g c =
    let t = c.args.table.now in
    let grid = (array_row t.holding.ledger.plan.now c.args.array).grid in
    writes_none (IsTelling c.bring_row.new.table) (printed (band_grid grid c.args.i) (band_values grid c.args.i (values_now t.holding.ledger.plan.now (state_now t) c.args.array))) c.from_residual.result c.in_err-bring_row.field-0.0
    (g.O.Sink.taken c.args.out.now) (g.O.Sink.faults c.args.out.now) c.from_residual.ensures.1 (λ e. c.in_err-bring_row.ensures.no_sink (ap Err e))

pub returns-in_err-print_array-clause-entries : goal.returns-in_err-print_array-clause-entries
returns-in_err-print_array-clause-entries g c =
    let t = c.args.table.now in
    let u = c.bring_row.new.table in
    let events = bring_events (state_now t) (row_blocks t.holding.ledger.plan.now c.args.array c.args.i) in
    let fault = c.in_err-print_array.field-0.0 in
    err_gives (λ r. PrintGives t u (line_now t) events r) c.from_residual-in_err-print_array.result (of_text fault) c.from_residual-in_err-print_array.ensures.1
    (breaks_behind t u (line_now t) events (of_text fault) c.in_ok-bring_row.ensures.entries (no_disk fault))
