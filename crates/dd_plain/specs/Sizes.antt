-- What holds of the arrays of a world, and what is asked of a task that runs on them.
use Rattle.std.specs.Prelude.{◌≡◌, ℕ, ◌^◌, ◌<◌, List, map, length, All}
use Rattle.dd_views.specs.Views.{IsViewOf}
use Rattle.dd_blocks.specs.declared.access_row.AccessRow.{AccessRow}
use Rattle.dd_blocks.specs.declared.array_row.ArrayRow.{ArrayRow}
use Rattle.dd_blocks.specs.declared.task_row.TaskRow.{TaskRow}
use Rattle.dd_blocks.specs.Grids.{element_count}
use Rattle.dd_blocks.specs.Numbered.{IsNumberIn, numbered, no_array}
use Rattle.dd_blocks.specs.Tasks.{MeetsKernel, shape_in}
use Rattle.dd_meaning.specs.Worlds.{World, values_of}

-- each array has as many values as its grid has elements
abbrev pub sizes_in : List ArrayRow → List ℕ
sizes_in arrays = map (λ (a : ArrayRow). element_count a.grid) arrays

abbrev pub HasSizes : List ArrayRow → World → Type 0
HasSizes arrays world = map length world ≡ sizes_in arrays

-- the array of an access has so many
abbrev pub HasSizeOf : List ArrayRow → World → AccessRow → Type 0
HasSizeOf arrays world access = length (values_of world access.view.array) ≡ element_count (numbered no_array arrays access.view.array).grid

-- the access is a view of an array, which is small enough that its elements can be counted as rows
pub record IsInArray (arrays : List ArrayRow) (access : AccessRow) : Type 0 where
  pub named : IsNumberIn arrays access.view.array
  pub view : IsViewOf (shape_in (numbered no_array arrays access.view.array)) access.view
  pub few : element_count (numbered no_array arrays access.view.array).grid < 2 ^ 32

-- the task can run
pub record CanRun (arrays : List ArrayRow) (task : TaskRow) : Type 0 where
  pub accesses : All (IsInArray arrays) task.accesses
  pub kernel : MeetsKernel task
