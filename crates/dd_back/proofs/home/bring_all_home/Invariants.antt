use Rattle.dd_back.proofs.ComingLemmas.{ComingHome}
use Rattle.dd_back.proofs.home.bring_all_home.Given as goal

abbrev pub invariant-loop-i : goal.invariant-loop-i
invariant-loop-i g l = ComingHome l.initial.table l.table l.i
