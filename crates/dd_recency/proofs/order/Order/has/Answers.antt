use Rattle.std.proofs.Common.{Contains, Decides, sym, subst}
use Rattle.std.specs.Map.{keys_of}
use Rattle.dd_recency.proofs.CacheLemmas.{found_decides}
use Rattle.dd_recency.proofs.order.Order.has.Goals as goal

pub returns : goal.returns
returns c =
    let es = c.self.inside.recent.entries in
    let here = subst (λ r. Decides r (Contains (keys_of es) c.args.block)) (sym c.contains.ensures) (found_decides c.args.block es) in
    subst (λ order. Decides c.contains.result (Contains order.blocks c.args.block)) c.self.view_is here
