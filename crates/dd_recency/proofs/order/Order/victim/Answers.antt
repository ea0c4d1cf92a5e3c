use Rattle.dd_recency.proofs.VictimLemmas.{none_listed, unlisted}
use Rattle.dd_recency.proofs.order.Order.victim.Goals as goal

pub returns-clause-none : goal.returns-clause-none
returns-clause-none c =
    let listed = none_listed c.args.pinned.now c.args.self.now.blocks in
    ((λ none. listed.0 (c.victim_by.ensures.none.0 none)), (λ all. c.victim_by.ensures.none.1 (listed.1 all)))

pub returns-clause-unpinned : goal.returns-clause-unpinned
returns-clause-unpinned c = unlisted c.args.pinned.now c.victim_by.result c.victim_by.ensures.unpinned
