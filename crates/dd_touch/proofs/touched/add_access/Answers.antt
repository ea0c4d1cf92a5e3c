use Rattle.dd_touch.proofs.TouchedPlanLemmas.{small_numbers}
use Rattle.dd_touch.proofs.touched.add_access.Goals as goal

pub add_touched-requires-clause-array : goal.add_touched-requires-clause-array
add_touched-requires-clause-array c =
    rw c.array.ensures (small_numbers c.args.plan.now c.args.access.now.view.array c.requires.arrays c.requires.edges c.requires.blocks c.requires.access.array)

pub add_touched-requires-clause-view : goal.add_touched-requires-clause-view
add_touched-requires-clause-view c = rw c.array.ensures c.requires.access.view

pub returns : goal.returns
returns c = rw c.array.ensures at c.add_touched.ensures
