use Rattle.std.proofs.Common.{Some, refl}
use Rattle.dd_pool.proofs.HeldLemmas.{at_place, elsewhere_of}
use Rattle.dd_pool.proofs.OutsLemmas.{put_slots}
use Rattle.dd_pool.proofs.pool.Pool.put_out.Goals as goal

pub invariant_of-self-clause-ours : goal.invariant_of-self-clause-ours
invariant_of-self-clause-ours g c =
    put_slots c.args.self.now.plan c.args.self.now.outs c.put.new.self c.args.space c.args.block _ c.args.out c.put.result c.requires.place c.place_of.ensures.value c.put.ensures.ok c.put.ensures.err c.args.self.now.ours c.requires.plan c.requires.block

pub returns-in-Ok-clause-ok : goal.returns-in-Ok-clause-ok
returns-in-Ok-clause-ok g c =
    let plan = c.args.self.now.plan.now in
    let has = at_place plan _ _ c.args.space c.args.block _ _ (Some c.args.out) refl c.place_of.ensures.value c.in-Ok.ensures.ok in
    record {
      here = has.here;
      others = elsewhere_of plan _ _ c.args.space c.args.block (Some c.args.out) c.requires.place has;
      rest = record { plan = refl; copies = refl; names = refl };
    }

pub returns-in-Err-clause-err : goal.returns-in-Err-clause-err
returns-in-Err-clause-err g c = λ s b. c.in-Err.ensures.err _
