use Rattle.std.proofs.Common.{arith}
use Rattle.dd_kernels.proofs.BlocksLemmas.{map_block_more}
use Rattle.dd_kernels.proofs.in_place.update.Goals as goal

pub loop-k-preserved : goal.loop-k-preserved
loop-k-preserved g c =
    λ op h. map_block_more op _ _ _ _ _ _ (omega arith) (omega arith) (omega arith) (c.update_each.ensures op h) (c.loop-k.invariant op h)
