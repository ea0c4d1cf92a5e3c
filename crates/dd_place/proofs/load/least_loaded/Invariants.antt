use Rattle.dd_place.specs.Chosen.{IsBest}
use Rattle.dd_place.proofs.load.least_loaded.Given as goal

abbrev pub invariant-loop-i : goal.invariant-loop-i
invariant-loop-i l = IsBest l.space l.procs l.earlier l.i l.best
