use Rattle.dd_back.proofs.FreeingLemmas.{Freeing}
use Rattle.dd_back.proofs.others.free_others.Given as goal

abbrev pub invariant-loop-i : goal.invariant-loop-i
invariant-loop-i g l = Freeing l.initial.table l.table l.i
