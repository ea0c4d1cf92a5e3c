use Rattle.std.proofs.Common.{Contains, sym, subst}
use Rattle.dd_recency.proofs.CacheLemmas.{order_touched, touched}
use Rattle.dd_recency.proofs.order.Order.touch.Goals as goal

pub invariant_of-self : goal.invariant_of-self
invariant_of-self c =
    let there = subst (λ order. Contains order.blocks c.args.block) (sym c.self.view_is) c.requires in
    rw c.promote.ensures.entries (order_touched c.self.inside.recent c.args.block there c.self.invariant)

pub returns : goal.returns
returns c =
    let there = subst (λ order. Contains order.blocks c.args.block) (sym c.self.view_is) c.requires in
    rw (c.promote.ensures.entries, touched c.self.inside.recent c.args.block there c.self.invariant, ← c.self.view_is)
