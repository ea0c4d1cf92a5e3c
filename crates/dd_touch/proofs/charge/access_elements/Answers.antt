use Rattle.std.proofs.Common.{arith}
use Rattle.dd_touch.proofs.SmallLemmas.{counted_more, view_at}
use Rattle.dd_touch.proofs.charge.access_elements.Goals as goal

pub len-sum-requires : goal.len-sum-requires
len-sum-requires c = view_at c.args.accesses.now c.loop-access.access-index _ (omega arith) c.requires.small

pub loop-access-preserved : goal.loop-access-preserved
loop-access-preserved c =
    counted_more c.args.accesses.now c.loop-access.access-index _ c.loop-access.sum c.len-sum.result (omega arith) c.requires.small c.loop-access.invariant c.len-sum.ensures.value c.len-sum.ensures.few
