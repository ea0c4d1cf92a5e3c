-- Of the numbers to come, what is left keeps those that all of theirs keep.
use Rattle.std.proofs.Common.{◌≡◌, ◌++◌, drop}
use Rattle.std.specs.List.{filter}
use Rattle.std.specs.List.Sorted.{IsStrictlyIncreasing}
use Rattle.dd_spans.specs.Kept.{is_kept}
use Rattle.dd_spans.proofs.sets.kept.Given as goal

abbrev pub invariant-loop-n : goal.invariant-loop-n
invariant-loop-n l =
    IsStrictlyIncreasing l.left
    × (l.numbers.items ++ filter (is_kept l.shared l.left) (drop l.n-index l.ours) ≡ filter (is_kept l.shared l.theirs) l.ours)
