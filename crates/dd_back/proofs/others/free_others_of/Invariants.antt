use Rattle.dd_back.proofs.FreeingLemmas.{FreeingOne}
use Rattle.dd_back.proofs.others.free_others_of.Given as goal

abbrev pub invariant-loop-i : goal.invariant-loop-i
invariant-loop-i g l = FreeingOne l.initial.table l.table l.block l.i
