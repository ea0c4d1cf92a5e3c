use Rattle.std.proofs.Common.{◌≡◌, replicate, None}
use Rattle.dd_copies.proofs.copies.Row.new.Given as goal

abbrev pub invariant-loop-block : goal.invariant-loop-block
invariant-loop-block l = l.cells.items ≡ replicate l._block None
