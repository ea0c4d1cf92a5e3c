use Rattle.std.proofs.Common.{rules, refl}
use Rattle.dd_kernels.specs.Lists.{element}
use Rattle.dd_kernels.proofs.NumbersLemmas.{sum_more_from}
use Rattle.dd_kernels.proofs.total.add_all.Goals as goal

pub loop-a-preserved : goal.loop-a-preserved
loop-a-preserved c = sum_more_from _ (element c.args.y.now) c.loop-a.a-index c.loop-a.sum-bits _ (search rules) (search rules) refl c.loop-a.invariant
