-- Which processor a task gets.
use Rattle.std.specs.Prelude.{◌≡◌, ℕ, ◌+◌, ◌%◌, List, length}
use Rattle.dd_blocks.specs.declared.plan.Plan.{Plan}
use Rattle.dd_blocks.specs.declared.rule.Rule.{Rule}
use Rattle.dd_blocks.specs.declared.rule.Rule.TheVariants.{Rr, Home}
use Rattle.dd_blocks.specs.declared.task_row.TaskRow.{TaskRow}
use Rattle.dd_place.specs.Leading.{space_for}
use Rattle.dd_place.specs.Loads.{IsLeastLoaded, candidates}

-- by the rule, the processors of the earlier tasks of its region and the task: round robin, or among the processors
-- of the task's space
abbrev pub IsPlacedBy : Rule → Plan → List ℕ → TaskRow → ℕ → Type 0
IsPlacedBy Rr plan earlier task proc = proc ≡ length earlier % length plan.procs + 1
IsPlacedBy Home plan earlier task proc = IsLeastLoaded (candidates plan (space_for plan task)) earlier proc

abbrev pub IsPlaced : Plan → List ℕ → TaskRow → ℕ → Type 0
IsPlaced plan earlier task proc = IsPlacedBy plan.rule plan earlier task proc
