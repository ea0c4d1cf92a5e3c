-- The lists so far are those of the tasks so far, and so are the extents.
use Rattle.dd_alias.specs.Waits.{AreOfTasks}
use Rattle.dd_alias.proofs.DependenciesLemmas.{AreDependenciesSoFar}
use Rattle.dd_alias.proofs.dependencies.deps.Given as goal

abbrev pub invariant-loop-place : goal.invariant-loop-place
invariant-loop-place l = record {
  lists : AreDependenciesSoFar l.tasks l.place l.lists.items;
  extents : AreOfTasks l.tasks l.place l.extents.items;
}
