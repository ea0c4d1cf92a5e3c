-- The numbers so far are below n.
use Rattle.std.proofs.Common.{◌<◌, take}
use Rattle.std.specs.List.{All}
use Rattle.dd_spans.proofs.cut.count_below.Given as goal

abbrev pub invariant-loop-count : goal.invariant-loop-count
invariant-loop-count l = All (λ m. m < l.n) (take l.count l.numbers)
