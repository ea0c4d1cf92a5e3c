use Rattle.std.proofs.Common.{ℕ, ◌*◌, ◌∙◌, arith}
use Rattle.dd_kernels.proofs.BlocksLemmas.{taken_block}
use Rattle.dd_kernels.proofs.element_wise.swap.Goals as goal

pub loop-k-preserved : goal.loop-k-preserved
loop-k-preserved c =
    let n : ℕ = 8 * c.loop-k.k in
    (taken_block n _ _ c.loop-k.x c.loop-k.y c.args.y.now c.args.x.now _ (omega arith) (omega arith) (omega arith) (omega arith) (c.put.ensures ∙ c.eight-second.ensures) c.loop-k.invariant.0 c.loop-k.invariant.1.1, taken_block n _ _ c.loop-k.y c.loop-k.x c.args.x.now c.args.y.now _ (omega arith) (omega arith) (omega arith) (omega arith) (c.put-in-loop-k.ensures ∙ c.eight-first.ensures) c.loop-k.invariant.1 c.loop-k.invariant.0.1)
