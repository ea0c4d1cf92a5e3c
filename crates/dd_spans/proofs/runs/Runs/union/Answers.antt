use Rattle.std.proofs.Common.{◌≡◌, ℕ, ◌-◌, ◌^◌, ◌<◌, ◌++◌, rules}
use Rattle.std.proofs.lemmas.List.Elements.{All-append}
use Rattle.dd_spans.specs.Numbers.{rising_numbers}
use Rattle.dd_spans.proofs.NumbersLemmas.{all_rising, rising_rises}
use Rattle.dd_spans.proofs.MergeLemmas.{either_members}
use Rattle.dd_spans.proofs.runs.Runs.union.Goals as goal

pub invariant_of-result : goal.invariant_of-result
invariant_of-result c =
    let P : ℕ → Type 0 = λ n. n < 2 ^ 64 - 1 in
    let ours = c.self.inside.numbers.items in
    let theirs = c.other.inside.numbers.items in
    rw (c.in_ok-numbers.ensures, c.deref.ensures.value, c.deref-2.ensures.value)
    (rising_rises (ours ++ theirs), (all_rising P (ours ++ theirs) (All-append P ours theirs c.self.inside.below c.other.inside.below), tt))

pub returns-clause-either : goal.returns-clause-either
returns-clause-either c =
    let e : c.in_ok-numbers.numbers.items ≡ rising_numbers (c.args.self.now.list ++ c.args.other.now.list) = search rules in
    λ n. rw e (either_members c.args.self.now.list c.args.other.now.list n)
