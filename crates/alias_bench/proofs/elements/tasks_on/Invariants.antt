-- There is a task for each number so far, and all are on the array.
use Rattle.std.proofs.Common.{◌≡◌, length}
use Rattle.alias_bench.specs.Tiles.{AreTasksIn}
use Rattle.alias_bench.proofs.elements.tasks_on.Given as goal

abbrev pub invariant-loop-number : goal.invariant-loop-number
invariant-loop-number l = (length l.tasks.items ≡ l.number) × AreTasksIn l.shape l.tasks.items
