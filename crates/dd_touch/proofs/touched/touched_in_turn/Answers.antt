use Rattle.std.proofs.Common.{arith}
use Rattle.dd_touch.proofs.TouchedPlanLemmas.{of_all, of_more, of_none}
use Rattle.dd_touch.proofs.touched.touched_in_turn.Goals as goal

pub loop-access-init : goal.loop-access-init
loop-access-init c = rw c.new-blocks.ensures.items (of_none c.args.plan.now)

pub loop-access-preserved : goal.loop-access-preserved
loop-access-preserved c = of_more c.args.plan.now c.args.accesses.now c.loop-access.access-index _ c.loop-access.blocks.items c.add_access.new.blocks.items (omega arith) c.loop-access.invariant c.in_ok-add_access.ensures

pub returns : goal.returns
returns c = of_all c.args.plan.now c.args.accesses.now c.loop-access.access-index c.loop-access.blocks.items (omega arith) c.loop-access.invariant
