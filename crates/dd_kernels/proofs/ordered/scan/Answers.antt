use Rattle.std.proofs.Common.{◌+◌, rules, arith}
use Rattle.dd_kernels.specs.Lists.{wrapped, element, sum_below}
use Rattle.dd_kernels.proofs.ListsLemmas.{tabulate_more, same_ahead, drop_past_set}
use Rattle.dd_kernels.proofs.NumbersLemmas.{sum_more}
use Rattle.dd_kernels.proofs.ordered.scan.Goals as goal

pub loop-a-preserved : goal.loop-a-preserved
loop-a-preserved c =
    let xs = c.args.x.now in
    let i = c.loop-a.a-index in
    let here = same_ahead c.loop-a.x xs i c.loop-a.invariant.1 in
    let sum = sum_more (element xs) i c.loop-a.sum-bits (element c.loop-a.x i) (search rules) (search rules) here c.loop-a.invariant.2 in
    (tabulate_more (λ i. wrapped (sum_below (i + 1) (element xs))) c.loop-a.x i _ (omega arith) sum c.loop-a.invariant.0, drop_past_set c.loop-a.x xs i _ c.loop-a.invariant.1, sum)
