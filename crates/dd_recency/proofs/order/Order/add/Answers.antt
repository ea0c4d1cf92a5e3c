use Rattle.std.proofs.Common.{Contains, ◌<◌, length, sym, subst}
use Rattle.dd_recency.proofs.CacheLemmas.{added, order_added}
use Rattle.dd_recency.proofs.order.Order.add.Goals as goal

pub invariant_of-self-2 : goal.invariant_of-self-2
invariant_of-self-2 c =
    let absent = subst (λ order. ¬ Contains order.blocks c.args.block) (sym c.self.view_is) c.requires.absent in
    let room = subst (λ order. length order.blocks < order.room) (sym c.self.view_is) c.requires.room in
    rw c.in_ok-put.ensures.entries (order_added c.self.inside.recent c.args.block tt absent room c.self.invariant)

pub returns-clause-ok : goal.returns-clause-ok
returns-clause-ok c =
    let absent = subst (λ order. ¬ Contains order.blocks c.args.block) (sym c.self.view_is) c.requires.absent in
    let room = subst (λ order. length order.blocks < order.room) (sym c.self.view_is) c.requires.room in
    rw (c.in_ok-put.ensures.entries, added c.self.inside.recent c.args.block tt absent room, ← c.self.view_is)
