use Rattle.std.proofs.Common.{ℕ, ◌-◌, ◌^◌, ◌<◌}
use Rattle.std.proofs.lemmas.List.Elements.{All-filter}
use Rattle.std.proofs.lemmas.List.Kept.{IsStrictlyIncreasing-filter}
use Rattle.dd_spans.specs.Kept.{is_kept}
use Rattle.dd_spans.proofs.runs.Runs.kept.Goals as goal

pub invariant_of-result : goal.invariant_of-result
invariant_of-result c =
    let P : ℕ → Type 0 = λ n. n < 2 ^ 64 - 1 in
    let ours = c.self.inside.numbers.items in
    let keeps = is_kept c.args.shared c.other.inside.numbers.items in
    rw (c.in_ok-numbers.ensures, c.deref.ensures.value, c.deref-2.ensures.value)
    (IsStrictlyIncreasing-filter keeps ours c.self.inside.rises, (All-filter keeps P ours c.self.inside.below, tt))
