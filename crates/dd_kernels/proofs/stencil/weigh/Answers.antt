use Rattle.dd_kernels.proofs.NumbersLemmas.{weighed_once}
use Rattle.dd_kernels.proofs.stencil.weigh.Goals as goal

pub returns : goal.returns
returns c = weighed_once c.args.above c.args.below c.args.left c.args.right c.args.here c.ranges.above c.ranges.below c.ranges.left c.ranges.right c.ranges.here
