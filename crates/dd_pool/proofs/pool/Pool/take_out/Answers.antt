use Rattle.std.proofs.Common.{None, refl}
use Rattle.dd_pool.proofs.HeldLemmas.{at_place, elsewhere_of}
use Rattle.dd_pool.proofs.OutsLemmas.{new_at, take_slot}
use Rattle.dd_pool.proofs.pool.Pool.take_out.Goals as goal

pub invariant_of-self-clause-ours : goal.invariant_of-self-clause-ours
invariant_of-self-clause-ours g c =
    take_slot c.args.self.now.plan _ _ c.args.space c.args.block (new_at _ _ _ _ None c.place_of.ensures.value c.take.ensures.left) c.args.self.now.ours

pub returns-clause-left : goal.returns-clause-left
returns-clause-left g c =
    let plan = c.args.self.now.plan.now in
    let has = at_place plan _ _ c.args.space c.args.block _ _ None refl c.place_of.ensures.value c.take.ensures.left in
    record {
      here = has.here;
      others = elsewhere_of plan _ _ c.args.space c.args.block None c.requires has;
      rest = record { plan = refl; copies = refl; names = refl };
    }
