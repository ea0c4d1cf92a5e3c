use Rattle.dd_pool.proofs.PlanLemmas.{few_cells, light_blocks}
use Rattle.dd_pool.proofs.OutsLemmas.{no_slots}
use Rattle.dd_pool.proofs.pool.Pool.new.Goals as goal

pub new-requires-clause-few : goal.new-requires-clause-few
new-requires-clause-few g c = few_cells c.args.plan.now c.requires

pub new-requires-clause-light : goal.new-requires-clause-light
new-requires-clause-light g c = light_blocks c.args.plan.now c.requires

pub invariant_of-result-clause-ours : goal.invariant_of-result-clause-ours
invariant_of-result-clause-ours g c = no_slots c.args.plan c.in_ok-new-2.field-0 c.in_ok-new-2.ensures.none
