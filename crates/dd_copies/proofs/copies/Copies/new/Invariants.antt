use Rattle.std.proofs.Common.{◌≡◌, replicate, None}
use Rattle.dd_copies.proofs.copies.Copies.new.Given as goal

abbrev pub invariant-loop-space : goal.invariant-loop-space
invariant-loop-space l = l.rows.items ≡ replicate l._space (replicate l.blocks None)
