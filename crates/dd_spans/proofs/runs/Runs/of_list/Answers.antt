use Rattle.std.proofs.Common.{ℕ, ◌-◌, ◌^◌, ◌<◌}
use Rattle.dd_spans.proofs.NumbersLemmas.{all_rising, contains_rising, rising_contains, rising_rises}
use Rattle.dd_spans.proofs.runs.Runs.of_list.Goals as goal

pub invariant_of-result : goal.invariant_of-result
invariant_of-result c =
    rw c.in_ok-numbers.ensures (rising_rises c.args.list.now, (all_rising (λ (n : ℕ). n < 2 ^ 64 - 1) c.args.list.now c.requires, tt))

pub returns-clause-same : goal.returns-clause-same
returns-clause-same c = λ n. rw c.in_ok-numbers.ensures (contains_rising c.args.list.now n, rising_contains c.args.list.now n)
