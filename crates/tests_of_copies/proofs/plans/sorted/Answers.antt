use Rattle.std.proofs.Common.{◌≡◌, ◌<◌}
use Rattle.std.specs.List.{All}
use Rattle.std.proofs.lemmas.Result.{IfOk-weaker}
use Rattle.dd_spans.specs.Numbers.{rising_numbers}
use Rattle.dd_spans.specs.SortedNumbers.{SortedNumbers}
use Rattle.dd_spans.proofs.NumbersLemmas.{all_rising}
use Rattle.tests_of_copies.proofs.plans.sorted.Goals as goal

pub returns : goal.returns
returns c =
    IfOk-weaker c.of_list.result (λ (runs : SortedNumbers). runs.list ≡ rising_numbers c.args.list.now) (λ (runs : SortedNumbers). All (λ p. p < c.args.size) runs.list)
    (λ runs is. rw is (all_rising (λ p. p < c.args.size) c.args.list.now c.requires.below)) c.of_list.ensures.sorted
