-- The extents so far are those of the tasks so far.
use Rattle.dd_alias.specs.Waits.{AreOfTasks}
use Rattle.dd_alias.proofs.extents.extents_of.Given as goal

abbrev pub invariant-loop-place : goal.invariant-loop-place
invariant-loop-place l = AreOfTasks l.tasks l.place l.extents.items
