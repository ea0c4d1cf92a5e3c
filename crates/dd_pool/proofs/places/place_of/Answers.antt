use Rattle.std.proofs.Common.{arith}
use Rattle.dd_pool.proofs.PlacesLemmas.{place_within}
use Rattle.dd_pool.proofs.places.place_of.Goals as goal

pub overflow_mul-result : goal.overflow_mul-result
overflow_mul-result c =
    let within = place_within c.args.plan.now c.args.space c.args.block c.requires.place in
    rw c.as_slice.ensures (omega (arith, within, c.requires.few))

pub overflow_add-result : goal.overflow_add-result
overflow_add-result c =
    let within = place_within c.args.plan.now c.args.space c.args.block c.requires.place in
    rw c.as_slice.ensures (omega (arith, within, c.requires.few))
