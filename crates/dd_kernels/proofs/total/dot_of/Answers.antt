use Rattle.std.proofs.Common.{◌*ℤ◌, rules, refl}
use Rattle.dd_kernels.specs.Lists.{element}
use Rattle.dd_kernels.proofs.NumbersLemmas.{product_sum_more}
use Rattle.dd_kernels.proofs.total.dot_of.Goals as goal

pub loop-i-preserved : goal.loop-i-preserved
loop-i-preserved c = product_sum_more (λ i. element c.args.y.now i *ℤ element c.args.z.now i) c.loop-i.i c.loop-i.sum-bits (element c.args.y.now c.loop-i.i) (element c.args.z.now c.loop-i.i) (search rules) (search rules) (search rules) refl c.loop-i.invariant
