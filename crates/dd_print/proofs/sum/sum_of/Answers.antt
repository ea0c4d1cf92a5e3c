use Rattle.std.proofs.Common.{rules, refl}
use Rattle.dd_kernels.specs.Lists.{element}
use Rattle.dd_kernels.proofs.NumbersLemmas.{sum_more}
use Rattle.dd_print.proofs.sum.sum_of.Goals as goal

pub loop-value-preserved : goal.loop-value-preserved
loop-value-preserved c = sum_more (element c.args.values.now) c.loop-value.value-index c.loop-value.sum-bits _ (search rules) (search rules) refl c.loop-value.invariant
