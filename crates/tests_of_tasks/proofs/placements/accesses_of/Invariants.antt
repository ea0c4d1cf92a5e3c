use Rattle.std.specs.List.{All}
use Rattle.dd_blocks.specs.OfPlan.{IsOfPlan}
use Rattle.tests_of_tasks.proofs.placements.accesses_of.Given as goal

abbrev pub invariant-loop-piece : goal.invariant-loop-piece
invariant-loop-piece g l = All (IsOfPlan l.plan) l.accesses
