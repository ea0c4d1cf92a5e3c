use Rattle.std.proofs.Common.{ℕ, not, find, reverse, rules, tests, sym, ap, ◌∙◌}
use Rattle.std.specs.Map.Iter.{deref_pair}
use Rattle.std.proofs.lemmas.Iterator.{YieldsList-from_map}
use Rattle.std.proofs.lemmas.Iterator.Adapters.{option_map_id}
use Rattle.std.proofs.lemmas.Iterator.Consumers.{YieldsList-at}
use Rattle.std.proofs.lemmas.Iterator.Search.{find_from_yields_List}
use Rattle.dd_recency.proofs.BackwardsLemmas.{YieldsList-from_rev_rest, map-reverse}
use Rattle.dd_recency.proofs.VictimLemmas.{find_is_last}
use Rattle.dd_recency.proofs.order.Order.least_recent.Goals as goal

pub returns : goal.returns
returns g c =
    let free = λ (b : ℕ). not (g.P.Pins.pinned c.args.pins.now b) in
    let es = c.self.inside.recent.entries in
    let entries = YieldsList-from_rev_rest deref_pair c.rev.result es (c.rev.ensures.source ∙ c.iter.ensures.rest) in
    let found = find_from_yields_List free c.find.new.self _ c.find.result c.find.ensures.ran (YieldsList-from_map _ (λ (e : ℕ × Unit {0}). e.0) (YieldsList-at c.map.ensures.source entries) c.map.ensures.closure (λ x r q k. search (rules, tests))) (λ x b q k. search (rules, tests)) in
    sym (option_map_id c.find.result) ∙ found
    ∙ ap (find free) (map-reverse (λ (e : ℕ × Unit {0}). e.0) es)
    ∙ ap (λ order. find free (reverse order.blocks)) c.self.view_is
    ∙ find_is_last free c.args.self.now.blocks
