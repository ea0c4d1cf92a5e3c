use Rattle.std.proofs.Common.{◌<◌, ℕ, arith}
use Rattle.std.proofs.lemmas.List.Elements.{All-more}
use Rattle.dd_spans.proofs.CutLemmas.{least_behind}
use Rattle.dd_spans.proofs.cut.count_below.Goals as goal

pub returns-then-number-n-clause-from : goal.returns-then-number-n-clause-from
returns-then-number-n-clause-from c = least_behind c.args.numbers.now c.args.n c.loop-count.count c.requires c.if-number-n.true

pub loop-count-preserved : goal.loop-count-preserved
loop-count-preserved c = All-more (λ (m : ℕ). m < c.args.n) c.args.numbers.now c.loop-count.count 0 (omega arith) c.loop-count.invariant c.if-number-n.false
