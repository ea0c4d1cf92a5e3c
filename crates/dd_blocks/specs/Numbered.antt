-- The rows of a Plan by their numbers, which go from 1. Where there is no row of a number, a row of zeros stands for it.
use Rattle.std.specs.Prelude.{ℕ, zero, suc, ◌≤◌, pos, List, [], length, slice_index_or}
use Rattle.dd_kernels.specs.declared.kernel.Kernel.TheVariants.{Fill}
use Rattle.dd_blocks.specs.declared.array_row.ArrayRow.{ArrayRow}
use Rattle.dd_blocks.specs.declared.block_row.BlockRow.{BlockRow}
use Rattle.dd_blocks.specs.declared.fill.Fill.TheVariants.{Zeros}
use Rattle.dd_blocks.specs.declared.plan.Plan.{Plan}
use Rattle.dd_blocks.specs.declared.proc_row.ProcRow.{ProcRow}
use Rattle.dd_blocks.specs.declared.space_row.SpaceRow.{SpaceRow}
use Rattle.dd_blocks.specs.declared.statement_row.StatementRow.{StatementRow}
use Rattle.dd_blocks.specs.declared.task_row.TaskRow.{TaskRow}
use Rattle.dd_blocks.specs.declared.what.What.TheVariants.{Moved}

-- there is a row of the number
abbrev pub IsNumberIn : {Row : Type 0} → List Row → ℕ → Type 0
IsNumberIn rows n = (1 ≤ n) × (n ≤ length rows)

-- the row of a number, or the one that stands for no row
abbrev pub numbered : {Row : Type 0} → Row → List Row → ℕ → Row
numbered none rows zero = none
numbered none rows (suc n) = slice_index_or rows n none

abbrev pub no_task : TaskRow
no_task = record { line = 0; region = 0; kernel = Fill; scalar = pos 0; accesses = []; proc = 0; deps = []; blocks = []; charge = 0 }

abbrev pub no_array : ArrayRow
no_array = record { grid = record { rows = 0; cols = 0; brows = 0; bcols = 0 }; fill = Zeros; first_block = 0; first_element = 0 }

abbrev pub space_row : Plan → ℕ → SpaceRow
space_row plan n = numbered (record { name = []; limit = 0 }) plan.spaces n

abbrev pub proc_row : Plan → ℕ → ProcRow
proc_row plan n = numbered (record { name = []; space = 0 }) plan.procs n

abbrev pub array_row : Plan → ℕ → ArrayRow
array_row plan n = numbered no_array plan.arrays n

abbrev pub block_row : Plan → ℕ → BlockRow
block_row plan n = numbered (record { array = 0; home = 0; size = 0 }) plan.blocks n

abbrev pub task_row : Plan → ℕ → TaskRow
task_row plan n = numbered no_task plan.tasks n

-- a statement row; one with nothing to do stands for no row
abbrev pub statement_row : Plan → ℕ → StatementRow
statement_row plan n = numbered (record { line = 0; what = Moved }) plan.statements n
