-- Which tasks keep their order: two of which one writes an element that the other reads or writes.
use Rattle.std.specs.Prelude.{◌⊎◌, ℕ, ◌<◌, ◌≤◌, ◌↔◌, List, Contains}
use Rattle.std.specs.List.Sorted.{IsStrictlyIncreasing}
use Rattle.dd_blocks.specs.declared.task_row.TaskRow.{TaskRow}
use Rattle.dd_blocks.specs.Elements.{UsesElement, WritesElement}
use Rattle.dd_blocks.specs.Numbered.{numbered, no_task}

-- some element is written by one of the tasks and used by the other
abbrev pub AreInConflict : TaskRow → TaskRow → Type 0
AreInConflict u t = (array : ℕ) × (pos : ℕ)
    × ((WritesElement u array pos × UsesElement t array pos) ⊎ (UsesElement u array pos × WritesElement t array pos))

-- of these tasks, the one numbered u stands above the one numbered t and is in conflict with it
abbrev pub MustPrecede : List TaskRow → ℕ → ℕ → Type 0
MustPrecede tasks u t = (1 ≤ u) × (u < t) × AreInConflict (numbered no_task tasks u) (numbered no_task tasks t)

-- the numbers, rising, of all tasks that must precede the one numbered t
pub record AreDependencies (tasks : List TaskRow) (t : ℕ) (found : List ℕ) : Type 0 where
  pub rising : IsStrictlyIncreasing found
  pub exact : (u : ℕ) → Contains found u ↔ MustPrecede tasks u t
