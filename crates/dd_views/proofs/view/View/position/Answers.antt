use Rattle.std.proofs.Common.{arith}
use Rattle.dd_views.proofs.ElementsLemmas.{position_inside, position_small}
use Rattle.dd_views.proofs.view.View.position.Goals as goal

pub overflow_mul-result : goal.overflow_mul-result
overflow_mul-result c =
    let small = position_small _ _ _ c.requires.view c.index_at-col.ensures.within c.index_at-row.ensures.within in
    rw c.from.ensures (omega (arith, small))

pub overflow_add-result : goal.overflow_add-result
overflow_add-result c =
    let small = position_small _ _ _ c.requires.view c.index_at-col.ensures.within c.index_at-row.ensures.within in
    rw c.from.ensures (omega (arith, small))

pub returns-clause-inside : goal.returns-clause-inside
returns-clause-inside c = λ shape view. rw c.from.ensures (position_inside shape _ _ _ view c.index_at-col.ensures.within c.index_at-row.ensures.within)
