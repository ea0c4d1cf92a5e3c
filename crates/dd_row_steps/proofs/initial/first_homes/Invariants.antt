-- The homes so far, and those of the rows that are left.
use Rattle.std.proofs.Common.{◌≡◌, ◌++◌, drop, map}
use Rattle.dd_blocks.specs.declared.block_row.BlockRow.{BlockRow}
use Rattle.dd_row_steps.proofs.initial.first_homes.Given as goal

abbrev pub invariant-loop-row : goal.invariant-loop-row
invariant-loop-row l = l.homes.items ++ map (λ (row : BlockRow). row.home) (drop l.row-index l.plan.blocks) ≡ map (λ (row : BlockRow). row.home) l.plan.blocks
