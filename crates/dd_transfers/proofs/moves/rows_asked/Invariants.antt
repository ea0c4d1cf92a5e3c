use Rattle.std.proofs.Common.{drop}
use Rattle.dd_transfers.specs.Rest.{NoneAsks}
use Rattle.dd_transfers.proofs.moves.rows_asked.Given as goal

abbrev pub invariant-loop-i : goal.invariant-loop-i
invariant-loop-i l = NoneAsks (drop l.i l.rows)
