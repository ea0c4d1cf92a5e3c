-- The blocks below `block` were seen to, and `sum` is the sum of theirs.
use Rattle.std.proofs.Common.{◌≡◌, ◌+◌, ◌-◌}
use Rattle.dd_blocks.specs.Numbered.{array_row}
use Rattle.dd_kernels.specs.Lists.{sum_below, wrapped}
use Rattle.dd_print.specs.Asks.{bring_one}
use Rattle.dd_print.specs.Held.{IsTelling, block_values, list_sum}
use Rattle.dd_statements.proofs.LoopLemmas.{IsAtBlock}
use Rattle.dd_table.specs.Tables.{state_now}
use Rattle.dd_print.proofs.sum.sum_of_array.Given as goal

abbrev pub invariant-loop-block : goal.invariant-loop-block
invariant-loop-block g l =
    IsAtBlock l.initial.table l.table (bring_one (state_now l.initial.table)) (array_row l.initial.table.holding.ledger.plan.now l.array).first_block l.block-end l.block
    × (IsTelling l.table → l.sum ≡ wrapped (sum_below (l.block - (array_row l.initial.table.holding.ledger.plan.now l.array).first_block)
    (λ j. list_sum (block_values l.initial.table.holding.ledger.plan.now (state_now l.initial.table) ((array_row l.initial.table.holding.ledger.plan.now l.array).first_block + j)))))
