-- The steps so far are those of the pieces so far.
use Rattle.dd_alias.proofs.StepLemmas.{AreStepsSoFar}
use Rattle.dd_alias.proofs.index.steps_of.Given as goal

abbrev pub invariant-loop-place : goal.invariant-loop-place
invariant-loop-place l = AreStepsSoFar l.pieces l.place l.steps.items
