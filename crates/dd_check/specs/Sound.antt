-- What holds of what the lines above leave, whatever they say.
use Rattle.std.specs.Prelude.{◌≡◌, ◌≢◌, ◌↔◌, ℕ, ◌+◌, ◌≤◌, true, false, List, [], length, All, AllPairs, Contains, None, Some, sum_by}
use Rattle.std.specs.List.Sorted.{IsNonDecreasingBy}
use Rattle.dd_blocks.specs.declared.access_row.AccessRow.{AccessRow}
use Rattle.dd_blocks.specs.declared.statement_row.StatementRow.{StatementRow}
use Rattle.dd_blocks.specs.declared.task_row.TaskRow.{TaskRow}
use Rattle.dd_blocks.specs.Charges.{AreTouched, access_elements, charge_of}
use Rattle.dd_blocks.specs.Layout.{IsLaidOut}
use Rattle.dd_blocks.specs.Limits.{region_elements_limit, region_tasks_limit, touches_limit}
use Rattle.dd_blocks.specs.Lines.{LinesRise}
use Rattle.dd_blocks.specs.Lives.{AreLives, IsLive, names_ended, names_given}
use Rattle.dd_blocks.specs.Numbered.{IsNumberIn, array_row}
use Rattle.dd_blocks.specs.Tasks.{IsShown, MeetsKernel, limit_at}
use Rattle.dd_blocks.specs.Touches.{touches_in}
use Rattle.dd_blocks.specs.WellFormed.{AreRegions, FitsHomes, KeepsLimits, NamesRows}
use Rattle.dd_blocks.specs.Tasks.{IsSoundTask}
use Rattle.dd_check.specs.Above.{Above, next_region, open_tasks}

-- what holds of a task of the region that is open: all that holds of a task, but for its dependencies
pub record IsOpenTask (s : Above) (task : TaskRow) : Type 0 where
  pub region : task.region ≡ next_region s
  pub live : All (λ (a : AccessRow). IsNumberIn s.plan.arrays a.view.array × IsLive s.plan.statements a.view.array) task.accesses
  pub views : All (λ (a : AccessRow). IsShown (array_row s.plan a.view.array) a.view) task.accesses
  pub kernel : MeetsKernel task
  pub proc : IsNumberIn s.plan.procs task.proc
  pub deps : task.deps ≡ []
  pub blocks : AreTouched s.plan task task.blocks
  pub charge : task.charge ≡ charge_of s.plan task
  pub within : task.charge ≤ limit_at s.plan task

pub record IsSoundRegion (s : Above) : Type 0 where
  pub tasks : All (IsOpenTask s) (open_tasks s)
  pub few : length (open_tasks s) ≤ region_tasks_limit
  pub elements : sum_by access_elements (open_tasks s) ≤ region_elements_limit
  pub touches : touches_in s.plan + sum_by (λ (t : TaskRow). length t.blocks) (open_tasks s) ≤ touches_limit

-- the machine: a processor has a space; there is a space below a statement of another kind, and a processor below one
-- that made a row; before the first such statement there is nothing but the machine
pub record IsSoundMachine (s : Above) : Type 0 where
  pub space_of_proc : s.plan.procs ≢ [] → 1 ≤ length s.plan.spaces
  pub space : s.settled ≡ true → 1 ≤ length s.plan.spaces
  pub proc : s.plan.statements ≢ [] → 1 ≤ length s.plan.procs
  pub opened : s.opened ≢ None → 1 ≤ length s.plan.procs
  pub arrays : s.settled ≡ false → s.plan.arrays ≡ []
  pub statements : s.settled ≡ false → s.plan.statements ≡ []
  pub region : s.settled ≡ false → s.opened ≡ None

-- the names of an array: as many as were given to it and did not end
pub record HasNames (s : Above) (array : ℕ) : Type 0 where
  pub names : List (List ℕ)
  pub apart : AllPairs (λ x y. x ≢ y) names
  pub exact : (name : List ℕ) → (s.live name ≡ Some array) ↔ Contains names name
  pub count : names_ended array s.plan.statements + length names ≡ names_given array s.plan.statements

pub record AreSoundNames (s : Above) : Type 0 where
  pub live : (name : List ℕ) (array : ℕ) → s.live name ≡ Some array → IsNumberIn s.plan.arrays array × IsLive s.plan.statements array
  pub names : (array : ℕ) → IsNumberIn s.plan.arrays array → HasNames s array

-- the rows stand on lines up to the last one above, and a line makes one row at most
pub record IsInLineTo (n : ℕ) (s : Above) : Type 0 where
  pub few : length s.plan.statements ≤ n
  pub lines : IsNonDecreasingBy (λ (row : StatementRow). row.line) s.plan.statements
  pub rise : LinesRise s.plan
  pub above : All (λ (row : StatementRow). row.line ≤ n) s.plan.statements
  pub tasks : length s.plan.tasks + length (open_tasks s) ≤ n

-- all this, below n lines
pub record IsSound (n : ℕ) (s : Above) : Type 0 where
  pub machine : IsSoundMachine s
  pub names_rows : NamesRows s.plan
  pub layout : IsLaidOut s.plan
  pub tasks : (t : ℕ) → IsNumberIn s.plan.tasks t → IsSoundTask s.plan t
  pub homes : All (FitsHomes s.plan) s.plan.blocks
  pub limits : KeepsLimits s.plan
  pub regions : AreRegions s.plan
  pub lives : AreLives s.plan
  pub names : AreSoundNames s
  pub region : IsSoundRegion s
  pub line : IsInLineTo n s
