-- What a statement that may stand there leaves.
use Rattle.std.specs.Prelude.{◌≡◌, ℕ, suc, nat_eq, cond, List, [], ◌∷◌, ◌++◌, length, Option, None, Some, unwrap_or}
use Rattle.std.specs.Str.{bytes_eq}
use Rattle.dd_blocks.specs.declared.array_row.ArrayRow.{ArrayRow}
use Rattle.dd_blocks.specs.declared.plan.Plan.{Plan}
use Rattle.dd_blocks.specs.declared.policy.Policy.{Policy}
use Rattle.dd_blocks.specs.declared.proc_row.ProcRow.{ProcRow}
use Rattle.dd_blocks.specs.declared.rule.Rule.{Rule}
use Rattle.dd_blocks.specs.declared.space_row.SpaceRow.{SpaceRow}
use Rattle.dd_blocks.specs.declared.task_row.TaskRow.{TaskRow}
use Rattle.dd_blocks.specs.declared.what.What.{What}
use Rattle.dd_blocks.specs.declared.what.What.TheVariants as what
use Rattle.dd_blocks.specs.Layout.{blocks_of_array}
use Rattle.dd_blocks.specs.Lives.{names_ended, names_given}
use Rattle.dd_script.specs.declared.statement.Statement.{Statement}
use Rattle.dd_script.specs.declared.statement.Statement.TheVariants.{Space, Proc, PolicyIs, PlaceIs, Array, Same, Drop, MoveTo, Region, Task, End, Print, Sum, Moved}
use Rattle.dd_check.specs.Above.{Above, OpenRegion, array_named, next_region, open_tasks, space_named}
use Rattle.dd_check.specs.Kinds.{array_of_name}
use Rattle.dd_check.specs.Rows.{AreJoined, IsTask, grid_of, next_array}

-- a Plan with one more space or processor, or with another policy or rule
abbrev pub add_space : SpaceRow → Plan → Plan
add_space row p = record { spaces = p.spaces ++ row ∷ []; procs = p.procs; policy = p.policy; rule = p.rule; arrays = p.arrays; blocks = p.blocks; tasks = p.tasks; statements = p.statements }

abbrev pub add_proc : ProcRow → Plan → Plan
add_proc row p = record { spaces = p.spaces; procs = p.procs ++ row ∷ []; policy = p.policy; rule = p.rule; arrays = p.arrays; blocks = p.blocks; tasks = p.tasks; statements = p.statements }

abbrev pub set_policy : Policy → Plan → Plan
set_policy policy p = record { spaces = p.spaces; procs = p.procs; policy = policy; rule = p.rule; arrays = p.arrays; blocks = p.blocks; tasks = p.tasks; statements = p.statements }

abbrev pub set_rule : Rule → Plan → Plan
set_rule rule p = record { spaces = p.spaces; procs = p.procs; policy = p.policy; rule = rule; arrays = p.arrays; blocks = p.blocks; tasks = p.tasks; statements = p.statements }

-- with one more array and its blocks, with the tasks of a region, and with one more statement on line n
abbrev pub add_array : ArrayRow → Plan → Plan
add_array row p = record { spaces = p.spaces; procs = p.procs; policy = p.policy; rule = p.rule; arrays = p.arrays ++ row ∷ []; blocks = p.blocks ++ blocks_of_array (length p.spaces) (suc (length p.arrays)) row; tasks = p.tasks; statements = p.statements }

abbrev pub add_tasks : List TaskRow → Plan → Plan
add_tasks rows p = record { spaces = p.spaces; procs = p.procs; policy = p.policy; rule = p.rule; arrays = p.arrays; blocks = p.blocks; tasks = p.tasks ++ rows; statements = p.statements }

abbrev pub add_statement : ℕ → What → Plan → Plan
add_statement n what p = record { spaces = p.spaces; procs = p.procs; policy = p.policy; rule = p.rule; arrays = p.arrays; blocks = p.blocks; tasks = p.tasks; statements = p.statements ++ record { line = n; what = what } ∷ [] }

-- the same lines above, with another Plan, or with another region open
abbrev pub with_plan : Plan → Above → Above
with_plan plan s = record { plan = plan; live = s.live; opened = s.opened; settled = s.settled }

abbrev pub with_open : Option OpenRegion → Above → Above
with_open opened s = record { plan = s.plan; live = s.live; opened = opened; settled = s.settled }

-- a name stands for an array from here on, or for none
abbrev pub with_name : List ℕ → Option ℕ → Above → Above
with_name name array s = record { plan = s.plan; live = λ other. cond (bytes_eq other name) array (s.live other); opened = s.opened; settled = s.settled }

abbrev pub space_of_name : Above → List ℕ → ℕ
space_of_name s name = unwrap_or (space_named s.plan name) 0

abbrev pub add_row : ℕ → What → Above → Above
add_row n what s = with_plan (add_statement n what s.plan) s

abbrev pub line_opened : Above → ℕ
line_opened s = line_of s.opened
  where
    line_of : Option OpenRegion → ℕ
    line_of None = 0
    line_of (Some region) = region.line

abbrev pub add_task : TaskRow → Above → Above
add_task task s = with_open (Some (record { line = line_opened s; tasks = open_tasks s ++ task ∷ [] })) s

-- the statement on line n leaves this, below s
abbrev pub Enters : ℕ → Above → Statement → Above → Type 0
Enters n s (Space name limit) after = after ≡ with_plan (add_space (record { name = name; limit = limit }) s.plan) s
Enters n s (Proc name space) after = after ≡ with_plan (add_proc (record { name = name; space = space_of_name s space }) s.plan) s
Enters n s (PolicyIs policy) after = after ≡ with_plan (set_policy policy s.plan) s
Enters n s (PlaceIs rule) after = after ≡ with_plan (set_rule rule s.plan) s
Enters n s (Array name rows cols brows bcols fill) after = after ≡
    with_name name (Some (suc (length s.plan.arrays)))
    (with_plan (add_statement n (what.Put (suc (length s.plan.arrays))) (add_array (next_array s.plan (grid_of rows cols brows bcols) fill) s.plan)) s)
Enters n s (Same name old) after = after ≡ with_name name (array_named s old) (add_row n (what.Same (array_of_name s old)) s)
Enters n s (Drop name) after = after ≡
    with_name name None (add_row n (what.Drop (array_of_name s name) (nat_eq (suc (names_ended (array_of_name s name) s.plan.statements)) (names_given (array_of_name s name) s.plan.statements))) s)
Enters n s (MoveTo name space) after = after ≡ add_row n (what.MoveTo (array_of_name s name) (space_of_name s space)) s
Enters n s Region after = after ≡ with_open (Some (record { line = n; tasks = [] })) s
Enters n s (Task kernel scalar pieces) after = (task : TaskRow) × IsTask n s kernel scalar pieces task × (after ≡ add_task task s)
Enters n s End after = (joined : List TaskRow) × AreJoined (length s.plan.tasks) (open_tasks s) joined
    × (after ≡ with_open None (with_plan (add_statement n (what.Region (next_region s)) (add_tasks joined s.plan)) s))
Enters n s (Print name) after = after ≡ add_row n (what.Print (array_of_name s name)) s
Enters n s (Sum name) after = after ≡ add_row n (what.Sum (array_of_name s name) name) s
Enters n s Moved after = after ≡ add_row n what.Moved s
