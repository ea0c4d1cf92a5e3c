-- The largest of the blocks so far.
use Rattle.std.proofs.Common.{◌≡◌, map, take}
use Rattle.dd_blocks.specs.Charges.{greatest}
use Rattle.dd_blocks.specs.Numbered.{block_row}
use Rattle.dd_touch.proofs.charge.largest.Given as goal

abbrev pub invariant-loop-block : goal.invariant-loop-block
invariant-loop-block l = l.size ≡ greatest (map (λ block. (block_row l.plan block).size) (take l.block-index l.blocks))
