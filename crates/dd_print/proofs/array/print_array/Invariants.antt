-- The first `i` rows of blocks were seen to, and what is written is the text but for the rows of the array that are left.
use Rattle.std.proofs.Common.{◌≡◌, ◌-◌, ◌*◌}
use Rattle.std.specs.List.{flat_map, range_with_len}
use Rattle.dd_blocks.specs.Numbered.{array_row}
use Rattle.dd_causes.specs.Appended.{AppendsAllBut}
use Rattle.dd_meaning.specs.Text.{printed, printed_row}
use Rattle.dd_print.specs.Held.{IsTelling, values_now}
use Rattle.dd_print.proofs.LoopsLemmas.{rows_at}
use Rattle.dd_statements.proofs.LoopLemmas.{IsAtBlock}
use Rattle.dd_table.specs.Tables.{state_now}
use Rattle.dd_print.proofs.array.print_array.Given as goal

abbrev pub invariant-loop-i : goal.invariant-loop-i
invariant-loop-i g l =
    IsAtBlock l.initial.table l.table (rows_at l.initial.table l.array) 0 l.i-end l.i
    × (IsTelling l.table → AppendsAllBut (g.O.Sink.taken l.initial.out) (g.O.Sink.taken l.out)
    (flat_map (printed_row (array_row l.initial.table.holding.ledger.plan.now l.array).grid (values_now l.initial.table.holding.ledger.plan.now (state_now l.initial.table) l.array))
    (range_with_len (l.i * (array_row l.initial.table.holding.ledger.plan.now l.array).grid.brows) ((array_row l.initial.table.holding.ledger.plan.now l.array).grid.rows - l.i * (array_row l.initial.table.holding.ledger.plan.now l.array).grid.brows)))
    (printed (array_row l.initial.table.holding.ledger.plan.now l.array).grid (values_now l.initial.table.holding.ledger.plan.now (state_now l.initial.table) l.array)))
    × (g.O.Sink.faults l.out ≡ g.O.Sink.faults l.initial.out)
