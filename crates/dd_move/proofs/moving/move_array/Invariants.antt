use Rattle.dd_blocks.specs.Numbered.{array_row}
use Rattle.dd_blocks.specs.Grids.{block_count}
use Rattle.std.proofs.Common.{◌+◌}
use Rattle.dd_move.proofs.MovesLemmas.{away}
use Rattle.dd_statements.proofs.LoopLemmas.{IsAtBlock}
use Rattle.dd_table.specs.Tables.{state_now}
use Rattle.dd_move.proofs.moving.move_array.Given as goal

abbrev pub invariant-loop-block : goal.invariant-loop-block
invariant-loop-block g l =
    let row = array_row l.initial.table.holding.ledger.plan.now l.array in
    IsAtBlock l.initial.table l.table (away (state_now l.initial.table).homes l.space) row.first_block (row.first_block + block_count row.grid) l.block
