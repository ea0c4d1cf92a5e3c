-- Small Plans for the examples: two spaces of one processor each, and arrays of one block each.
use Rattle.std.proofs.Common.{ℕ, ℤ, pos, List, [], ◌∷◌, map}
use Rattle.dd_kernels.specs.declared.kernel.Kernel.{Kernel}
use Rattle.dd_kernels.specs.declared.signature.Mode.{Mode}
use Rattle.dd_views.specs.declared.part.Part.TheVariants.{All}
use Rattle.dd_views.specs.declared.span3.Span3.{Span3}
use Rattle.dd_views.specs.declared.view.View.{View}
use Rattle.dd_blocks.specs.declared.access_row.AccessRow.{AccessRow}
use Rattle.dd_blocks.specs.declared.array_row.ArrayRow.{ArrayRow}
use Rattle.dd_blocks.specs.declared.fill.Fill.{Fill}
use Rattle.dd_blocks.specs.declared.plan.Plan.{Plan}
use Rattle.dd_blocks.specs.declared.policy.Policy.TheVariants.{Lru}
use Rattle.dd_blocks.specs.declared.rule.Rule.TheVariants.{Rr}
use Rattle.dd_blocks.specs.declared.statement_row.StatementRow.{StatementRow}
use Rattle.dd_blocks.specs.declared.task_row.TaskRow.{TaskRow}
use Rattle.dd_blocks.specs.declared.what.What.{What}
use Rattle.dd_blocks.specs.Layout.{blocks_of_arrays}

-- an array of one block, the first position of which stands behind so many elements
abbrev pub array_of : ℕ → ℕ → Fill → ℕ → ℕ → ArrayRow
array_of rows cols fill number behind =
    record { grid = record { rows = rows; cols = cols; brows = rows; bcols = cols }; fill = fill; first_block = number; first_element = behind }

-- count numbers from the first on, with a step
abbrev pub span_of : ℕ → ℤ → ℕ → Span3
span_of first step count = record { first = first; step = step; count = count }

-- all elements of a row or of a column of an array, at these numbers
abbrev pub row_view : ℕ → Span3 → View
row_view array cols = record { array = array; height = 1; rows = span_of 1 (pos 1) 1; cols = cols; part = All }

abbrev pub column_view : ℕ → ℕ → Span3 → View
column_view array height rows = record { array = array; height = height; rows = rows; cols = span_of 1 (pos 1) 1; part = All }

abbrev pub access : Mode → View → AccessRow
access mode view = record { view = view; mode = mode }

-- a task of the first region
abbrev pub task_of : Kernel → ℤ → ℕ → List AccessRow → TaskRow
task_of kernel scalar proc accesses =
    record { line = 1; region = 1; kernel = kernel; scalar = scalar; accesses = accesses; proc = proc; deps = []; blocks = []; charge = 0 }

abbrev statement : What → StatementRow
statement what = record { line = 1; what = what }

abbrev pub plan_of : List ArrayRow → List TaskRow → List What → Plan
plan_of arrays tasks whats = record {
  spaces = record { name = 109 ∷ []; limit = 4096 } ∷ record { name = 110 ∷ []; limit = 4096 } ∷ [];
  procs = record { name = 112 ∷ []; space = 1 } ∷ record { name = 113 ∷ []; space = 2 } ∷ [];
  policy = Lru;
  rule = Rr;
  arrays = arrays;
  blocks = blocks_of_arrays 2 arrays;
  tasks = tasks;
  statements = map statement whats;
}
