-- What holds of each task of a Plan.
use Rattle.std.specs.Prelude.{◌≡◌, ◌↔◌, ℕ, ◌≤◌, pos, List, map, All, Contains}
use Rattle.std.specs.List.{AllZip}
use Rattle.std.specs.List.Sorted.{IsStrictlyIncreasing}
use Rattle.dd_kernels.specs.declared.signature.Mode.{Mode}
use Rattle.dd_kernels.specs.declared.signature.Mode.TheVariants.{Read, Write, Both}
use Rattle.dd_kernels.specs.declared.shape.Shape.{Shape as KernelShape}
use Rattle.dd_kernels.specs.Shapes.{ShapesFit}
use Rattle.dd_kernels.specs.Signatures.{TakesScalar, modes_of}
use Rattle.dd_views.specs.declared.range.Range.{Range}
use Rattle.dd_views.specs.declared.shape.Shape.{Shape}
use Rattle.dd_views.specs.declared.view.View.{View}
use Rattle.dd_views.specs.Views.{IsViewOf, Shows, shape_of}
use Rattle.dd_blocks.specs.declared.access_row.AccessRow.{AccessRow}
use Rattle.dd_blocks.specs.declared.array_row.ArrayRow.{ArrayRow}
use Rattle.dd_blocks.specs.declared.plan.Plan.{Plan}
use Rattle.dd_blocks.specs.declared.task_row.TaskRow.{TaskRow}
use Rattle.dd_blocks.specs.Charges.{AreTouched, charge_of}
use Rattle.dd_blocks.specs.Conflicts.{MustPrecede}
use Rattle.dd_blocks.specs.Numbered.{array_row, proc_row, space_row, task_row}

abbrev pub shape_in : ArrayRow → Shape
shape_in array = record { rows = array.grid.rows; cols = array.grid.cols }

-- two ranges and a part show the view in the array
pub record IsShown (array : ArrayRow) (v : View) : Type 0 where
  pub rows : Range
  pub cols : Range
  pub shows : Shows v.array (shape_in array) rows cols v.part v
  pub view : IsViewOf (shape_in array) v

-- an access that is only read, or only written, may be used so; one that is written may be read as well
abbrev pub MayBe : Mode → Mode → Type 0
MayBe Read Read = Unit {0}
MayBe Write Write = Unit {0}
MayBe Write Both = Unit {0}
MayBe Both Both = Unit {0}
MayBe _ _ = ⊥

-- the shape of an access, for a kernel
abbrev pub kernel_shape : View → KernelShape
kernel_shape v = record { rows = (shape_of v).rows; cols = (shape_of v).cols }

abbrev pub shapes_in : List AccessRow → List KernelShape
shapes_in accesses = map (λ (a : AccessRow). kernel_shape a.view) accesses

-- the accesses are what the kernel takes
pub record MeetsKernel (task : TaskRow) : Type 0 where
  pub modes : AllZip MayBe (modes_of task.kernel) (map (λ (a : AccessRow). a.mode) task.accesses)
  pub shapes : ShapesFit task.kernel (shapes_in task.accesses)
  pub scalar : ¬ TakesScalar task.kernel → task.scalar ≡ pos 0

-- the limit of the space in which the task runs
abbrev pub limit_at : Plan → TaskRow → ℕ
limit_at plan task = (space_row plan (proc_row plan task.proc).space).limit

-- the task numbered u must be done before the one numbered t, which is of the same region
abbrev pub IsDependency : Plan → ℕ → ℕ → Type 0
IsDependency plan u t = MustPrecede plan.tasks u t × ((task_row plan u).region ≡ (task_row plan t).region)

-- what holds of the task with a number
pub record IsSoundTask (plan : Plan) (t : ℕ) : Type 0 where
  pub views : All (λ (a : AccessRow). IsShown (array_row plan a.view.array) a.view) (task_row plan t).accesses
  pub kernel : MeetsKernel (task_row plan t)
  pub deps_rise : IsStrictlyIncreasing (task_row plan t).deps
  pub deps : (u : ℕ) → Contains (task_row plan t).deps u ↔ IsDependency plan u t
  pub blocks : AreTouched plan (task_row plan t) (task_row plan t).blocks
  pub charge : (task_row plan t).charge ≡ charge_of plan (task_row plan t)
  pub within : (task_row plan t).charge ≤ limit_at plan (task_row plan t)
