use Rattle.std.proofs.Common.{◌≡◌, ◌↔◌, ℕ}
use Rattle.std.specs.List.{Contains, filter}
use Rattle.std.proofs.lemmas.Result.{IfOk-weaker}
use Rattle.dd_spans.specs.Numbers.{is_among}
use Rattle.dd_spans.specs.SortedNumbers.{SortedNumbers}
use Rattle.dd_spans.proofs.MergeLemmas.{both_members}
use Rattle.dd_spans.proofs.runs.Runs.meet.Goals as goal

pub returns-clause-both : goal.returns-clause-both
returns-clause-both c =
    let ours = c.args.self.now.list in
    let theirs = c.args.other.now.list in
    IfOk-weaker c.kept.result (λ (runs : SortedNumbers). runs.list ≡ filter (is_among theirs) ours) (λ (runs : SortedNumbers). (n : ℕ) → Contains runs.list n ↔ (Contains ours n × Contains theirs n))
    (λ runs is n. rw is (both_members ours theirs n)) c.kept.ensures
