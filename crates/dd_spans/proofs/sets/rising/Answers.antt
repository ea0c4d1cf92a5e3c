use Rattle.std.proofs.Common.{◌≡◌, rules}
use Rattle.dd_spans.proofs.NumbersLemmas.{sorted_once}
use Rattle.dd_spans.proofs.sets.rising.Goals as goal

pub returns : goal.returns
returns c =
    let given : c.extend_from_slice.new.self.items ≡ c.args.list.now = search rules in
    sorted_once c.args.list.now c.sort_unstable.new.self.items c.dedup.new.self.items (rw given at c.sort_unstable.ensures.permutation) c.sort_unstable.ensures.sorted c.dedup.ensures.filtered
