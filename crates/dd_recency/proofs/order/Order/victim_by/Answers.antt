use Rattle.dd_recency.specs.declared.policy.Policy.TheVariants.{Lru, Mru}
use Rattle.dd_recency.proofs.VictimLemmas.{all_pinned, none_left, victim-among, victim-unpinned}
use Rattle.dd_recency.proofs.order.Order.victim_by.Goals as goal

pub returns-in-Lru-clause-value : goal.returns-in-Lru-clause-value
returns-in-Lru-clause-value g c = rw c.in-Lru.is c.least_recent.ensures

pub returns-in-Lru-clause-none : goal.returns-in-Lru-clause-none
returns-in-Lru-clause-none g c =
    let test = g.P.Pins.pinned c.args.pins.now in
    rw c.least_recent.ensures (all_pinned Lru test c.args.self.now.blocks, none_left Lru test c.args.self.now.blocks)

pub returns-in-Lru-clause-among : goal.returns-in-Lru-clause-among
returns-in-Lru-clause-among g c = rw c.least_recent.ensures (victim-among Lru (g.P.Pins.pinned c.args.pins.now) c.args.self.now.blocks)

pub returns-in-Lru-clause-unpinned : goal.returns-in-Lru-clause-unpinned
returns-in-Lru-clause-unpinned g c = rw c.least_recent.ensures (victim-unpinned Lru (g.P.Pins.pinned c.args.pins.now) c.args.self.now.blocks)

pub returns-in-Mru-clause-value : goal.returns-in-Mru-clause-value
returns-in-Mru-clause-value g c = rw c.in-Mru.is c.most_recent.ensures

pub returns-in-Mru-clause-none : goal.returns-in-Mru-clause-none
returns-in-Mru-clause-none g c =
    let test = g.P.Pins.pinned c.args.pins.now in
    rw c.most_recent.ensures (all_pinned Mru test c.args.self.now.blocks, none_left Mru test c.args.self.now.blocks)

pub returns-in-Mru-clause-among : goal.returns-in-Mru-clause-among
returns-in-Mru-clause-among g c = rw c.most_recent.ensures (victim-among Mru (g.P.Pins.pinned c.args.pins.now) c.args.self.now.blocks)

pub returns-in-Mru-clause-unpinned : goal.returns-in-Mru-clause-unpinned
returns-in-Mru-clause-unpinned g c = rw c.most_recent.ensures (victim-unpinned Mru (g.P.Pins.pinned c.args.pins.now) c.args.self.now.blocks)
