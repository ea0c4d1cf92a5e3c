use Rattle.dd_blocks.specs.Numbered.{array_row}
use Rattle.dd_blocks.specs.Grids.{block_count}
use Rattle.std.proofs.Common.{◌+◌}
use Rattle.dd_move.proofs.FreesLemmas.{Frees}
use Rattle.dd_move.proofs.names.free_array.Given as goal

abbrev pub invariant-loop-block : goal.invariant-loop-block
invariant-loop-block g l =
    let row = array_row l.initial.table.holding.ledger.plan.now l.array in
    Frees l.initial.table l.table row.first_block (row.first_block + block_count row.grid) l.block
