-- The first `j` blocks of the row were seen to, and the band has their values.
use Rattle.std.proofs.Common.{◌≡◌, ◌*◌, length}
use Rattle.dd_blocks.specs.Numbered.{array_row}
use Rattle.dd_print.specs.Asks.{block_at}
use Rattle.dd_print.specs.Bands.{band_height}
use Rattle.dd_print.specs.Held.{IsTelling}
use Rattle.dd_print.proofs.BandsLemmas.{band_to, columns_to}
use Rattle.dd_print.proofs.LoopsLemmas.{brought_at}
use Rattle.dd_statements.proofs.LoopLemmas.{IsAtBlock}
use Rattle.dd_table.specs.Tables.{state_now}
use Rattle.dd_print.proofs.array.bring_row.Given as goal

abbrev pub invariant-loop-j : goal.invariant-loop-j
invariant-loop-j g l =
    IsAtBlock l.initial.table l.table (brought_at l.initial.table (block_at l.initial.table.holding.ledger.plan.now l.array l.i)) 0 l.j-end l.j
    × (length l.band.items ≡ columns_to (array_row l.initial.table.holding.ledger.plan.now l.array).grid l.j * band_height (array_row l.initial.table.holding.ledger.plan.now l.array).grid l.i)
    × (IsTelling l.table → l.band.items ≡ band_to l.initial.table.holding.ledger.plan.now (state_now l.initial.table) l.array l.i l.j)
