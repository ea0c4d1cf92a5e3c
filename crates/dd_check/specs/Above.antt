-- What the lines above a line leave, and the statement that stands below them finds.
use Rattle.std.specs.Prelude.{ℕ, ◌+◌, Bool, true, false, cond, codes, nat_eq, List, [], ◌∷◌, length, Option, None, Some, position}
use Rattle.std.specs.Str.{bytes_eq}
use Rattle.dd_causes.specs.Steps.{◌>>=◌}
use Rattle.dd_blocks.specs.declared.plan.Plan.{Plan}
use Rattle.dd_blocks.specs.declared.policy.Policy.TheVariants.{Lru}
use Rattle.dd_blocks.specs.declared.proc_row.ProcRow.{ProcRow}
use Rattle.dd_blocks.specs.declared.rule.Rule.TheVariants.{Rr}
use Rattle.dd_blocks.specs.declared.space_row.SpaceRow.{SpaceRow}
use Rattle.dd_blocks.specs.declared.task_row.TaskRow.{TaskRow}
use Rattle.dd_blocks.specs.Lives.{regions_run}
use Rattle.dd_script.specs.declared.statement.Statement.{Statement}
use Rattle.dd_script.specs.declared.statement.Statement.TheVariants.{Space, Proc, PolicyIs, PlaceIs}

-- a region that is open: the line at which it begins, and its tasks so far
pub record OpenRegion : Type 0 where
  pub line : ℕ
  pub tasks : List TaskRow

-- the rows so far, without those of a region that is open; for each name the number of the array that has it, if one is
-- there; the region that is open; whether a statement stands above that is not one on the machine
pub record Above : Type 0 where
  pub plan : Plan
  pub live : List ℕ → Option ℕ
  pub opened : Option OpenRegion
  pub settled : Bool

abbrev pub no_rows : Plan
no_rows = record { spaces = []; procs = []; policy = Lru; rule = Rr; arrays = []; blocks = []; tasks = []; statements = [] }

-- above the first line
abbrev pub nothing_above : Above
nothing_above = record { plan = no_rows; live = λ name. None; opened = None; settled = false }

-- the tasks of the region that is open
abbrev pub open_tasks_of : Option OpenRegion → List TaskRow
open_tasks_of None = []
open_tasks_of (Some region) = region.tasks

abbrev pub open_tasks : Above → List TaskRow
open_tasks s = open_tasks_of s.opened

-- the number of the region that is open, or that comes next
abbrev pub next_region : Above → ℕ
next_region s = length (regions_run s.plan.statements) + 1

-- the number of the space, of the processor and of the array of a name
abbrev pub number_at : Option ℕ → Option ℕ
number_at place = place >>= λ p. Some (p + 1)

abbrev pub space_named : Plan → List ℕ → Option ℕ
space_named plan name = number_at (position (λ (row : SpaceRow). bytes_eq row.name name) plan.spaces)

abbrev pub proc_named : Plan → List ℕ → Option ℕ
proc_named plan name = number_at (position (λ (row : ProcRow). bytes_eq row.name name) plan.procs)

abbrev pub array_named : Above → List ℕ → Option ℕ
array_named s name = s.live name

-- the statements on the machine
abbrev pub is_machine : Statement → Bool
is_machine (Space name limit) = true
is_machine (Proc name space) = true
is_machine (PolicyIs policy) = true
is_machine (PlaceIs rule) = true
is_machine _ = false

-- the machine of a script that has none: one space and one processor
abbrev pub main_space : SpaceRow
main_space = record { name = codes "main"; limit = 1073741824 }

abbrev pub main_proc : ProcRow
main_proc = record { name = codes "cpu"; space = 1 }

abbrev pub with_machine : Plan → Plan
with_machine plan =
    cond (nat_eq (length plan.spaces + length plan.procs) 0)
    (record { spaces = main_space ∷ []; procs = main_proc ∷ []; policy = plan.policy; rule = plan.rule; arrays = plan.arrays; blocks = plan.blocks; tasks = plan.tasks; statements = plan.statements })
    plan

-- a statement that is not one on the machine finds the machine complete
abbrev pub settle : Above → Above
settle s = record { plan = with_machine s.plan; live = s.live; opened = s.opened; settled = true }

abbrev pub found_by : Above → Statement → Above
found_by s x = cond (is_machine x) s (settle s)
