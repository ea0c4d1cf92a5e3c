-- When a Plan is well formed. Whoever takes a Plan may assume it.
use Rattle.std.specs.Prelude.{◌≡◌, ℕ, ◌-◌, ◌*◌, ◌^◌, ◌<◌, ◌≤◌, length, All, sum_by}
use Rattle.std.specs.List.{range_with_len}
use Rattle.std.specs.List.Sorted.{IsNonDecreasingBy}
use Rattle.dd_blocks.specs.declared.access_row.AccessRow.{AccessRow}
use Rattle.dd_blocks.specs.declared.array_row.ArrayRow.{ArrayRow}
use Rattle.dd_blocks.specs.declared.block_row.BlockRow.{BlockRow}
use Rattle.dd_blocks.specs.declared.plan.Plan.{Plan}
use Rattle.dd_blocks.specs.declared.proc_row.ProcRow.{ProcRow}
use Rattle.dd_blocks.specs.declared.space_row.SpaceRow.{SpaceRow}
use Rattle.dd_blocks.specs.declared.statement_row.StatementRow.{StatementRow}
use Rattle.dd_blocks.specs.declared.task_row.TaskRow.{TaskRow}
use Rattle.dd_blocks.specs.declared.what.What.{What}
use Rattle.dd_blocks.specs.declared.what.What.TheVariants.{Put, Print, Sum, Moved, Same, Drop, MoveTo, Region}
use Rattle.dd_blocks.specs.Charges.{access_elements}
use Rattle.dd_blocks.specs.Homes.{spaces_of}
use Rattle.dd_blocks.specs.Layout.{IsLaidOut, blocks_in, elements_in}
use Rattle.dd_blocks.specs.Limits.{arrays_limit, blocks_limit, edge_limit, elements_limit, name_limit, procs_limit, region_elements_limit, region_tasks_limit, space_limit, spaces_limit, touches_limit}
use Rattle.dd_blocks.specs.Lives.{AreLives, regions_run, tasks_of}
use Rattle.dd_blocks.specs.Numbered.{IsNumberIn, space_row}
use Rattle.dd_blocks.specs.Tasks.{IsSoundTask}
use Rattle.dd_blocks.specs.Touches.{touches_in}

-- Every number that a row gives names a row.

abbrev pub IsRegion : Plan → ℕ → Type 0
IsRegion plan region = IsNumberIn (regions_run plan.statements) region

pub record TaskNamesRows (plan : Plan) (task : TaskRow) : Type 0 where
  pub region : IsRegion plan task.region
  pub accesses : All (λ (a : AccessRow). IsNumberIn plan.arrays a.view.array) task.accesses
  pub proc : IsNumberIn plan.procs task.proc
  pub deps : All (IsNumberIn plan.tasks) task.deps
  pub blocks : All (IsNumberIn plan.blocks) task.blocks

abbrev pub StatementNamesRows : Plan → What → Type 0
StatementNamesRows plan (Put array) = IsNumberIn plan.arrays array
StatementNamesRows plan (Print array) = IsNumberIn plan.arrays array
StatementNamesRows plan (Sum array name) = IsNumberIn plan.arrays array
StatementNamesRows plan Moved = Unit {0}
StatementNamesRows plan (Same array) = IsNumberIn plan.arrays array
StatementNamesRows plan (Drop array last) = IsNumberIn plan.arrays array
StatementNamesRows plan (MoveTo array space) = IsNumberIn plan.arrays array × IsNumberIn plan.spaces space
StatementNamesRows plan (Region region) = IsRegion plan region

pub record NamesRows (plan : Plan) : Type 0 where
  pub procs : All (λ (p : ProcRow). IsNumberIn plan.spaces p.space) plan.procs
  pub blocks : All (λ (b : BlockRow). IsNumberIn plan.arrays b.array × IsNumberIn plan.spaces b.home) plan.blocks
  pub tasks : All (TaskNamesRows plan) plan.tasks
  pub statements : All (λ (row : StatementRow). StatementNamesRows plan row.what) plan.statements

-- There is a machine: a space, and a processor where there is a statement.
pub record HasMachine (plan : Plan) : Type 0 where
  pub space : 1 ≤ length plan.spaces
  pub proc : 1 ≤ length plan.statements → 1 ≤ length plan.procs

-- A block and room to move it fit into its first home, and into each space to which its array is moved.
pub record FitsHomes (plan : Plan) (block : BlockRow) : Type 0 where
  pub first : 16 * block.size ≤ (space_row plan block.home).limit
  pub moved : All (λ space. 16 * block.size ≤ (space_row plan space).limit) (spaces_of block.array plan.statements)

-- The limits of a script hold.

abbrev pub IsFromOneTo : ℕ → ℕ → Type 0
IsFromOneTo limit n = (1 ≤ n) × (n ≤ limit)

pub record HasSmallEdges (array : ArrayRow) : Type 0 where
  pub rows : IsFromOneTo edge_limit array.grid.rows
  pub cols : IsFromOneTo edge_limit array.grid.cols
  pub brows : IsFromOneTo edge_limit array.grid.brows
  pub bcols : IsFromOneTo edge_limit array.grid.bcols

pub record IsSmallSpace (space : SpaceRow) : Type 0 where
  pub name : length space.name ≤ name_limit
  pub limit : IsFromOneTo space_limit space.limit

pub record IsSmallRegion (plan : Plan) (region : ℕ) : Type 0 where
  pub tasks : length (tasks_of plan region) ≤ region_tasks_limit
  pub elements : sum_by access_elements (tasks_of plan region) ≤ region_elements_limit

-- The name that a statement prints is short.
abbrev pub HasShortName : What → Type 0
HasShortName (Sum array name) = length name ≤ name_limit
HasShortName _ = Unit {0}

pub record KeepsLimits (plan : Plan) : Type 0 where
  pub each_space : All IsSmallSpace plan.spaces
  pub each_proc : All (λ (p : ProcRow). length p.name ≤ name_limit) plan.procs
  pub each_array : All HasSmallEdges plan.arrays
  pub each_statement : All (λ (row : StatementRow). HasShortName row.what) plan.statements
  pub spaces : length plan.spaces ≤ spaces_limit
  pub procs : length plan.procs ≤ procs_limit
  pub arrays : length plan.arrays ≤ arrays_limit
  pub elements : elements_in plan.arrays ≤ elements_limit
  pub blocks : blocks_in plan.arrays ≤ blocks_limit
  pub each_region : (region : ℕ) → IsSmallRegion plan region
  pub touches : touches_in plan ≤ touches_limit

-- The numbers of rows and tasks fit 32 bits, with one to spare, and the lines of the rows never fall.
pub record IsInLine (plan : Plan) : Type 0 where
  pub rows : length plan.statements < 2 ^ 32 - 1
  pub tasks : length plan.tasks < 2 ^ 32 - 1
  pub lines : IsNonDecreasingBy (λ (row : StatementRow). row.line) plan.statements

-- The tasks stand region by region, and each region is run by one row, in order.
pub record AreRegions (plan : Plan) : Type 0 where
  pub tasks : IsNonDecreasingBy (λ (t : TaskRow). t.region) plan.tasks
  pub rows : regions_run plan.statements ≡ range_with_len 1 (length (regions_run plan.statements))

pub record IsWellFormed (plan : Plan) : Type 0 where
  pub machine : HasMachine plan
  pub names : NamesRows plan
  pub layout : IsLaidOut plan
  pub tasks : (t : ℕ) → IsNumberIn plan.tasks t → IsSoundTask plan t
  pub homes : All (FitsHomes plan) plan.blocks
  pub limits : KeepsLimits plan
  pub line : IsInLine plan
  pub regions : AreRegions plan
  pub lives : AreLives plan
