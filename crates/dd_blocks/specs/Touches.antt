-- How often a script touches blocks: once for each block of each task, and for each block of an array that is printed,
-- summed or moved.
use Rattle.std.specs.Prelude.{ℕ, ◌+◌, length, sum_by}
use Rattle.dd_blocks.specs.declared.plan.Plan.{Plan}
use Rattle.dd_blocks.specs.declared.statement_row.StatementRow.{StatementRow}
use Rattle.dd_blocks.specs.declared.task_row.TaskRow.{TaskRow}
use Rattle.dd_blocks.specs.declared.what.What.{What}
use Rattle.dd_blocks.specs.declared.what.What.TheVariants.{Put, Print, Sum, Moved, Same, Drop, MoveTo, Region}
use Rattle.dd_blocks.specs.Grids.{block_count}
use Rattle.dd_blocks.specs.Numbered.{array_row}

abbrev pub blocks_of : Plan → ℕ → ℕ
blocks_of plan array = block_count (array_row plan array).grid

abbrev pub touches_of : Plan → What → ℕ
touches_of plan (Put array) = 0
touches_of plan (Print array) = blocks_of plan array
touches_of plan (Sum array name) = blocks_of plan array
touches_of plan Moved = 0
touches_of plan (Same array) = 0
touches_of plan (Drop array last) = 0
touches_of plan (MoveTo array space) = blocks_of plan array
touches_of plan (Region region) = 0

abbrev pub touches_in : Plan → ℕ
touches_in plan = sum_by (λ (t : TaskRow). length t.blocks) plan.tasks + sum_by (λ (row : StatementRow). touches_of plan row.what) plan.statements
