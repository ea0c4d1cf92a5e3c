use Rattle.std.proofs.lemmas.List.Elements.{All-push, All-same}
use Rattle.dd_blocks.specs.OfPlan.{IsOfPlan}
use Rattle.tests_of_tasks.proofs.placements.accesses_of.Goals.{in-Some+in_ok-push-in-Some, in-None+else-assert}
use Rattle.tests_of_tasks.proofs.placements.accesses_of.Goals as goal

pub loop-piece-preserved : goal.loop-piece-preserved
loop-piece-preserved g c = elim c.match-access_of.branch [
  | in-Some+in_ok-push-in-Some w ↦ rw w.accesses-is (All-same (IsOfPlan c.args.plan.now) _ _ w.in_ok-push-in-Some.ensures.ok (All-push (IsOfPlan c.args.plan.now) c.loop-piece.accesses w.in-Some.access c.loop-piece.invariant w.in-Some.ensures))
  | in-None+else-assert w ↦ rw w.accesses-is c.loop-piece.invariant
]
