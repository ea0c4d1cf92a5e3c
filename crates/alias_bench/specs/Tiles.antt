-- Accesses and tasks of one array.
use Rattle.std.specs.Prelude.{List, All}
use Rattle.dd_views.specs.declared.shape.Shape.{Shape}
use Rattle.dd_views.specs.Views.{IsViewOf}
use Rattle.dd_blocks.specs.declared.access_row.AccessRow.{AccessRow}
use Rattle.dd_blocks.specs.declared.task_row.TaskRow.{TaskRow}

-- each access is a view of an array of the shape
abbrev pub AreInArray : Shape → List AccessRow → Type 0
AreInArray shape accesses = All (λ (a : AccessRow). IsViewOf shape a.view) accesses

abbrev pub AreTasksIn : Shape → List TaskRow → Type 0
AreTasksIn shape tasks = All (λ (t : TaskRow). AreInArray shape t.accesses) tasks
