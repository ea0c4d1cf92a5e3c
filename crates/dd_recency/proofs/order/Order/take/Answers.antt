use Rattle.std.proofs.Common.{Contains, Decides, is_some, sym, ap, subst, ◌∙◌}
use Rattle.std.specs.Map.{keys_of}
use Rattle.dd_recency.proofs.CacheLemmas.{found_decides, keys_of-remove_entry, order_taken, unchanged}
use Rattle.dd_recency.proofs.order.Order.take.Goals as goal

pub invariant_of-self : goal.invariant_of-self
invariant_of-self c = rw c.pop.ensures.entries (order_taken c.self.inside.recent c.args.block c.self.invariant)

pub returns-clause-found : goal.returns-clause-found
returns-clause-found c =
    let es = c.self.inside.recent.entries in
    let is = c.is_some.ensures ∙ ap is_some c.pop.ensures.value in
    let here = subst (λ r. Decides r (Contains (keys_of es) c.args.block)) (sym is) (found_decides c.args.block es) in
    subst (λ order. Decides c.is_some.result (Contains order.blocks c.args.block)) c.self.view_is here

pub returns-clause-rest : goal.returns-clause-rest
returns-clause-rest c = rw (c.pop.ensures.entries, keys_of-remove_entry c.args.block c.self.inside.recent.entries c.self.invariant.0, ← c.self.view_is)

pub returns-clause-absent : goal.returns-clause-absent
returns-clause-absent c = λ none.
    let nothing = sym (c.is_some.ensures ∙ ap is_some c.pop.ensures.value) ∙ none in
    rw (c.pop.ensures.entries, keys_of-remove_entry c.args.block c.self.inside.recent.entries c.self.invariant.0, unchanged c.args.block c.self.inside.recent.entries nothing, ← c.self.view_is)
