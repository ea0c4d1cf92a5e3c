-- The numbers so far, and those to come with what is left, are the numbers of both.
use Rattle.std.proofs.Common.{◌≡◌, ◌++◌, drop}
use Rattle.std.specs.List.Sorted.{IsStrictlyIncreasing}
use Rattle.dd_spans.specs.Numbers.{rising_numbers}
use Rattle.dd_spans.proofs.sets.joined.Given as goal

abbrev pub invariant-loop-n : goal.invariant-loop-n
invariant-loop-n l =
    IsStrictlyIncreasing l.left
    × (l.numbers.items ++ rising_numbers (drop l.n-index l.ours ++ l.left) ≡ rising_numbers (l.ours ++ l.theirs))
