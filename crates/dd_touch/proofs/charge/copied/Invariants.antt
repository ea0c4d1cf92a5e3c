-- The elements of the blocks so far.
use Rattle.std.proofs.Common.{◌≡◌, ◌*◌, ◌^◌, ◌≤◌, take, sum_by}
use Rattle.dd_blocks.specs.Numbered.{block_row}
use Rattle.dd_touch.proofs.charge.copied.Given as goal

abbrev pub invariant-loop-block : goal.invariant-loop-block
invariant-loop-block l =
    (l.sum ≡ sum_by (λ block. (block_row l.plan block).size) (take l.block-index l.blocks)) × (l.sum ≤ l.block-index * 2 ^ 32)
