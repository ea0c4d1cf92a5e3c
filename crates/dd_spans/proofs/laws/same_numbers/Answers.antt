use Rattle.dd_spans.specs.SortedNumbers.{same_sorted}
use Rattle.dd_spans.proofs.MembersLemmas.{same_from_contains}
use Rattle.dd_spans.proofs.laws.same_numbers.Goals as goal

pub returns : goal.returns
returns c = λ a b same. same_sorted a b (same_from_contains a.list b.list a.rises b.rises (λ n. (same n).0) (λ n. (same n).1))
