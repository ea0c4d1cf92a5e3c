-- One shape for all views of an array.
use Rattle.std.specs.Prelude.{ℕ, List, All}
use Rattle.dd_views.specs.declared.shape.Shape.{Shape}
use Rattle.dd_views.specs.Views.{IsViewOf}
use Rattle.dd_blocks.specs.declared.access_row.AccessRow.{AccessRow}
use Rattle.dd_blocks.specs.declared.task_row.TaskRow.{TaskRow}

-- each access is a view of its array, whose shape is found by the array's number
abbrev pub AreViewsBy : (ℕ → Shape) → List AccessRow → Type 0
AreViewsBy shape_at accesses = All (λ (a : AccessRow). IsViewOf (shape_at a.view.array) a.view) accesses

-- the arrays have shapes by which each access of each task is a view of its array
abbrev pub HaveOneShape : List TaskRow → Type 0
HaveOneShape tasks = (shape_at : ℕ → Shape) × All (λ (t : TaskRow). AreViewsBy shape_at t.accesses) tasks
