-- Worked examples of the definitions: each computes.
use Rattle.std.proofs.Common.{◌≡◌, ℕ, List, [], ◌∷◌, map, pos, Some, None, refl}
use Rattle.std.specs.List.{range_with_len}
use Rattle.dd_kernels.specs.declared.kernel.Kernel.TheVariants.{Fill}
use Rattle.dd_kernels.specs.declared.signature.Mode.{Mode}
use Rattle.dd_kernels.specs.declared.signature.Mode.TheVariants.{Read, Write}
use Rattle.dd_views.specs.declared.part.Part.{Part}
use Rattle.dd_views.specs.declared.part.Part.TheVariants.{All, UnitLower}
use Rattle.dd_views.specs.declared.span3.Span3.{Span3}
use Rattle.dd_blocks.specs.declared.access_row.AccessRow.{AccessRow}
use Rattle.dd_blocks.specs.declared.block_row.BlockRow.{BlockRow}
use Rattle.dd_blocks.specs.declared.fill.Fill.TheVariants.{Zeros}
use Rattle.dd_blocks.specs.declared.plan.Plan.{Plan}
use Rattle.dd_blocks.specs.declared.policy.Policy.TheVariants.{Lru}
use Rattle.dd_blocks.specs.declared.proc_row.ProcRow.{ProcRow}
use Rattle.dd_blocks.specs.declared.rule.Rule.TheVariants.{Home}
use Rattle.dd_blocks.specs.declared.statement_row.StatementRow.{StatementRow}
use Rattle.dd_blocks.specs.declared.task_row.TaskRow.{TaskRow}
use Rattle.dd_blocks.specs.declared.what.What.{What}
use Rattle.dd_blocks.specs.declared.what.What.TheVariants.{MoveTo, Put, Region}
use Rattle.dd_place.specs.Leading.{leading_block, space_for}
use Rattle.dd_place.specs.Loads.{candidates, tasks_on}
use Rattle.dd_blocks.specs.Homes.{home_in_region, row_of_region}

abbrev row : What → StatementRow
row what = record { line = 1; what = what }

abbrev block : ℕ → BlockRow
block home = record { array = 1; home = home; size = 1 }

abbrev proc : ℕ → ProcRow
proc space = record { name = []; space = space }

-- an array of 2 by 2 elements, each a block; it moves to space 2 between two regions
abbrev plan : Plan
plan = record {
  spaces = [];
  procs = proc 1 ∷ proc 3 ∷ proc 1 ∷ [];
  policy = Lru;
  rule = Home;
  arrays = record { grid = record { rows = 2; cols = 2; brows = 1; bcols = 1 }; fill = Zeros; first_block = 1; first_element = 0 } ∷ [];
  blocks = block 1 ∷ block 2 ∷ block 3 ∷ block 1 ∷ [];
  tasks = [];
  statements = row (Put 1) ∷ row (Region 1) ∷ row (MoveTo 1 2) ∷ row (Region 2) ∷ [];
}

rows : map (row_of_region plan) (range_with_len 1 3) ≡ 2 ∷ 4 ∷ 5 ∷ []
rows = refl

homes : map (λ region. home_in_region plan region 3) (range_with_len 1 3) ≡ 3 ∷ 2 ∷ 2 ∷ []
homes = refl

-- of space 1, of space 3, and of space 2, which has none
chosen : map (candidates plan) (1 ∷ 3 ∷ 2 ∷ []) ≡ (1 ∷ 3 ∷ []) ∷ (2 ∷ []) ∷ (1 ∷ 2 ∷ 3 ∷ []) ∷ []
chosen = refl

counted : map (tasks_on (3 ∷ 1 ∷ 3 ∷ [])) (range_with_len 1 3) ≡ 1 ∷ 0 ∷ 2 ∷ []
counted = refl

abbrev span : ℕ → ℕ → Span3
span first count = record { first = first; step = pos 1; count = count }

-- from a row and a column on, of so many rows and columns
abbrev access : ℕ → ℕ → ℕ → Part → Mode → AccessRow
access first_row first_col count part mode = record { view = record { array = 1; height = 2; rows = span first_row count; cols = span first_col count; part = part }; mode = mode }

abbrev task : List AccessRow → TaskRow
task accesses = record { line = 1; region = 1; kernel = Fill; scalar = pos 0; accesses = accesses; proc = 0; deps = []; blocks = []; charge = 0 }

-- the written access behind a read one
written : leading_block plan (task (access 1 1 1 All Read ∷ access 1 2 1 All Write ∷ [])) ≡ Some 3
written = refl

-- the written access is empty, and the read one begins below the diagonal
read : leading_block plan (task (access 1 1 0 All Write ∷ access 1 1 2 UnitLower Read ∷ [])) ≡ Some 2
read = refl

nothing : leading_block plan (task (access 1 1 0 All Write ∷ [])) ≡ None
nothing = refl

spaces : map (λ accesses. space_for plan (task accesses)) ((access 1 2 1 All Write ∷ []) ∷ [] ∷ []) ≡ 3 ∷ 1 ∷ []
spaces = refl
