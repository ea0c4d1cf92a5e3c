-- The first rows were run, and the sink has counted nothing.
use Rattle.std.proofs.Common.{◌≡◌}
use Rattle.dd_run.proofs.SoFarLemmas.{IsSoFar}
use Rattle.dd_run.proofs.rows.run_rows.Given as goal

abbrev pub invariant-loop-i : goal.invariant-loop-i
invariant-loop-i g l =
    IsSoFar l.journal l.initial.table l.table l.i (g.O.Sink.taken l.initial.out) (g.O.Sink.taken l.out) × (g.O.Sink.faults l.out ≡ g.O.Sink.faults l.initial.out)
