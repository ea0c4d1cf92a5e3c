use Rattle.std.proofs.Common.{◌≡◌, ◌↔◌, ℕ, not}
use Rattle.std.specs.List.{Contains, filter}
use Rattle.std.proofs.lemmas.Result.{IfOk-weaker}
use Rattle.dd_spans.specs.Numbers.{is_among}
use Rattle.dd_spans.specs.SortedNumbers.{SortedNumbers}
use Rattle.dd_spans.proofs.MergeLemmas.{alone_members}
use Rattle.dd_spans.proofs.runs.Runs.minus.Goals as goal

pub returns-clause-alone : goal.returns-clause-alone
returns-clause-alone c =
    let ours = c.args.self.now.list in
    let theirs = c.args.other.now.list in
    IfOk-weaker c.kept.result (λ (runs : SortedNumbers). runs.list ≡ filter (λ n. not (is_among theirs n)) ours) (λ (runs : SortedNumbers). (n : ℕ) → Contains runs.list n ↔ (Contains ours n × (¬ Contains theirs n)))
    (λ runs is n. rw is (alone_members ours theirs n)) c.kept.ensures
