use Rattle.std.proofs.Common.{◌+◌}
use Rattle.dd_blocks.specs.Grids.{block_count}
use Rattle.dd_blocks.specs.Numbered.{array_row}
use Rattle.dd_run.specs.Puts.{put_one}
use Rattle.dd_statements.proofs.LoopLemmas.{IsAtBlock}
use Rattle.dd_table.specs.Tables.{state_now}
use Rattle.dd_run.proofs.puts.put_blocks.Given as goal

abbrev pub invariant-loop-block : goal.invariant-loop-block
invariant-loop-block g l =
    let row = array_row l.initial.table.holding.ledger.plan.now l.array in
    IsAtBlock l.initial.table l.table (put_one (state_now l.initial.table)) row.first_block (row.first_block + block_count row.grid) l.block
