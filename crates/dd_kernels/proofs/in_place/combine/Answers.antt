use Rattle.std.proofs.Common.{◌+◌, ◌*◌, List, ℤ, ap, ◌∙◌, arith}
use Rattle.std.specs.List.{between}
use Rattle.dd_kernels.specs.Lists.{zip_with}
use Rattle.dd_kernels.proofs.BlocksLemmas.{zip_block_more}
use Rattle.dd_kernels.proofs.in_place.combine.Goals as goal

pub loop-k-preserved : goal.loop-k-preserved
loop-k-preserved g c =
    let block = between (8 * c.loop-k.k) (8 * c.loop-k.k + 8) c.loop-k.x in
    λ op h. zip_block_more op _ _ _ _ _ _ _ (omega arith) (omega arith) (omega arith) (omega arith) (c.combine_each.ensures op h ∙ ap (λ (l : List ℤ). zip_with op block l) c.eight-here.ensures) (c.loop-k.invariant op h)
