-- The rows that a statement makes.
use Rattle.std.specs.Prelude.{◌≡◌, ℕ, ◌+◌, ℤ, pos, List, [], ◌∷◌, map, length, Option, unwrap_or, unsigned_abs}
use Rattle.std.specs.List.{AllZip}
use Rattle.dd_kernels.specs.Names.{name_of}
use Rattle.dd_views.specs.declared.shape.Shape.{Shape}
use Rattle.dd_views.specs.Views.{Shows}
use Rattle.dd_blocks.specs.declared.access_row.AccessRow.{AccessRow}
use Rattle.dd_blocks.specs.declared.array_row.ArrayRow.{ArrayRow}
use Rattle.dd_blocks.specs.declared.fill.Fill.{Fill}
use Rattle.dd_blocks.specs.declared.grid.Grid.{Grid}
use Rattle.dd_blocks.specs.declared.plan.Plan.{Plan}
use Rattle.dd_blocks.specs.declared.task_row.TaskRow.{TaskRow}
use Rattle.dd_blocks.specs.Charges.{AreTouched, charge_of}
use Rattle.dd_blocks.specs.Conflicts.{AreDependencies}
use Rattle.dd_blocks.specs.Layout.{blocks_in, elements_in}
use Rattle.dd_blocks.specs.Numbered.{IsNumberIn, array_row, numbered}
use Rattle.dd_blocks.specs.Tasks.{shape_in}
use Rattle.dd_place.specs.Placement.{IsPlaced}
use Rattle.dd_script.specs.declared.piece.Piece.{Piece}
use Rattle.dd_check.specs.Above.{Above, array_named, next_region, open_tasks}

-- the row of an array behind those of a plan
abbrev pub grid_of : ℤ → ℤ → ℤ → ℤ → Grid
grid_of rows cols brows bcols = record { rows = unsigned_abs rows; cols = unsigned_abs cols; brows = unsigned_abs brows; bcols = unsigned_abs bcols }

abbrev pub next_array : Plan → Grid → Fill → ArrayRow
next_array plan grid fill = record { grid = grid; fill = fill; first_block = blocks_in plan.arrays + 1; first_element = elements_in plan.arrays }

-- the array that a piece names, or 0 where there is none
abbrev pub array_of : Above → Piece → ℕ
array_of s piece = unwrap_or (array_named s piece.name) 0

abbrev pub shape_of_array : Above → Piece → Shape
shape_of_array s piece = shape_in (array_row s.plan (array_of s piece))

-- the access that a piece says
pub record IsAccess (s : Above) (piece : Piece) (access : AccessRow) : Type 0 where
  pub mode : access.mode ≡ piece.mode
  pub view : Shows (array_of s piece) (shape_of_array s piece) piece.rows piece.cols piece.part access.view

abbrev pub AreAccesses : Above → List Piece → List AccessRow → Type 0
AreAccesses s pieces accesses = AllZip (IsAccess s) pieces accesses

-- the row of the task that stands on line n, before the dependencies of its region are known
pub record IsTask (n : ℕ) (s : Above) (kernel : List ℕ) (scalar : Option ℤ) (pieces : List Piece) (task : TaskRow) : Type 0 where
  pub line : task.line ≡ n
  pub region : task.region ≡ next_region s
  pub kernel_named : kernel ≡ name_of task.kernel
  pub scalar_is : task.scalar ≡ unwrap_or scalar (pos 0)
  pub accesses : AreAccesses s pieces task.accesses
  pub proc : IsPlaced s.plan (map (λ (t : TaskRow). t.proc) (open_tasks s)) task task.proc
  pub deps : task.deps ≡ []
  pub blocks : AreTouched s.plan task task.blocks
  pub charge : task.charge ≡ charge_of s.plan task

abbrev pub with_deps : List ℕ → TaskRow → TaskRow
with_deps deps t = record { line = t.line; region = t.region; kernel = t.kernel; scalar = t.scalar; accesses = t.accesses; proc = t.proc; deps = deps; blocks = t.blocks; charge = t.charge }

-- tasks with what they depend on, by the numbers of the whole script: so many tasks stand before them
abbrev pub with_found : ℕ → List TaskRow → List (List ℕ) → List TaskRow
with_found before [] found = []
with_found before (t ∷ ts) [] = []
with_found before (t ∷ ts) (f ∷ fs) = with_deps (map (λ d. before + d) f) t ∷ with_found before ts fs

-- the tasks of a region that ends, with their dependencies
pub record AreJoined (before : ℕ) (tasks joined : List TaskRow) : Type 0 where
  pub found : List (List ℕ)
  pub each : length found ≡ length tasks
  pub exact : (t : ℕ) → IsNumberIn tasks t → AreDependencies tasks t (numbered [] found t)
  pub is : joined ≡ with_found before tasks found
