use Rattle.dd_spans.proofs.RunLemmas.{range_rises, run_below}
use Rattle.dd_spans.proofs.runs.Runs.of_run.Goals as goal

pub invariant_of-result : goal.invariant_of-result
invariant_of-result c = rw c.in_ok-numbers.ensures (range_rises c.args.first c.args.count, (run_below c.args.first c.args.count c.requires, tt))
