use Rattle.std.proofs.Common.{arith}
use Rattle.dd_alias.proofs.DependenciesLemmas.{so_far_all, so_far_more}
use Rattle.dd_alias.proofs.OwnLemmas.{tasks_permuted}
use Rattle.dd_alias.proofs.dependencies.deps.Goals as goal

pub deps_at-requires-clause-index : goal.deps_at-requires-clause-index
deps_at-requires-clause-index c =
    tasks_permuted c.args.tasks.now _ _ c.in_ok-index.index (rw c.deref.ensures.value at c.in_ok-index.ensures) c.in_ok-extents_of.ensures

pub loop-place-preserved : goal.loop-place-preserved
loop-place-preserved c = record {
  lists = rw c.in_ok-push.ensures.items (so_far_more c.args.tasks.now c.loop-place.place c.loop-place.lists.items c.in_ok-deps_at.field-0 c.loop-place.invariant.lists c.in_ok-deps_at.ensures.found);
  extents = c.in_ok-deps_at.ensures.added;
}

pub returns : goal.returns
returns c = so_far_all c.args.tasks.now c.loop-place.place c.loop-place.lists.items (omega arith) c.loop-place.invariant.lists
