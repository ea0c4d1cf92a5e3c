use Rattle.std.proofs.Common.{◌∙◌}
use Rattle.dd_spans.proofs.NumbersLemmas.{cut_below, cut_from}
use Rattle.dd_spans.proofs.cut.cut_at.Goals as goal

pub returns-clause-below : goal.returns-clause-below
returns-clause-below c =
    c.split_at.ensures.front ∙ cut_below c.args.n c.args.numbers.now c.count_below.result c.count_below.ensures.below c.count_below.ensures.from

pub returns-clause-from : goal.returns-clause-from
returns-clause-from c =
    c.split_at.ensures.back ∙ cut_from c.args.n c.args.numbers.now c.count_below.result c.count_below.ensures.below c.count_below.ensures.from
