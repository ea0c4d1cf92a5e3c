use Rattle.dd_back.proofs.PullingLemmas.{Pulling}
use Rattle.dd_back.proofs.pulling.pull_all.Given as goal

abbrev pub invariant-loop-i : goal.invariant-loop-i
invariant-loop-i g l = Pulling l.initial.table l.table l.block l.i
