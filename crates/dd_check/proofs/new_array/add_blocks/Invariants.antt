-- The blocks so far are added.
use Rattle.std.proofs.Common.{◌≡◌, ◌++◌, map}
use Rattle.std.specs.List.{range_with_len}
use Rattle.dd_check.specs.NewArray.{block_at}
use Rattle.dd_check.proofs.new_array.add_blocks.Given as goal

abbrev pub invariant-loop-block : goal.invariant-loop-block
invariant-loop-block l = l.blocks ≡ l.fn.blocks ++ map (block_at l.row l.array l.spaces) (range_with_len 0 l.block)
