-- The dependencies of all tasks of a list.
use Rattle.std.specs.Prelude.{◌≡◌, ℕ, List, [], length}
use Rattle.dd_blocks.specs.declared.task_row.TaskRow.{TaskRow}
use Rattle.dd_blocks.specs.Conflicts.{AreDependencies}
use Rattle.dd_blocks.specs.Numbered.{IsNumberIn, numbered}

-- there is a list for each task, and the n-th has the dependencies of the task numbered n
pub record AreDependenciesOfAll (tasks : List TaskRow) (lists : List (List ℕ)) : Type 0 where
  pub count : length lists ≡ length tasks
  pub each : (n : ℕ) → IsNumberIn tasks n → AreDependencies tasks n (numbered [] lists n)
