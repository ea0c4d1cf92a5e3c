-- The block by which a task finds its space.
use Rattle.std.specs.Prelude.{ℕ, List, Option}
use Rattle.std.specs.List.{filter, filter_map, slice_get}
use Rattle.std.specs.Option.{option_map, option_map_or, option_or}
use Rattle.dd_views.specs.IndexList.{index_list}
use Rattle.dd_blocks.specs.declared.access_row.AccessRow.{AccessRow}
use Rattle.dd_blocks.specs.declared.plan.Plan.{Plan}
use Rattle.dd_blocks.specs.declared.task_row.TaskRow.{TaskRow}
use Rattle.dd_blocks.specs.Charges.{block_with}
use Rattle.dd_blocks.specs.Elements.{writes}
use Rattle.dd_blocks.specs.Homes.{home_in_region}

-- the block that has the first element of an access, if the access isn't empty
abbrev pub first_block : Plan → AccessRow → Option ℕ
first_block plan access = option_map (block_with plan access.view.array) (slice_get (index_list access.view) 0)

-- that of the first access that isn't empty
abbrev pub first_block_of : Plan → List AccessRow → Option ℕ
first_block_of plan accesses = slice_get (filter_map (first_block plan) accesses) 0

abbrev pub written : List AccessRow → List AccessRow
written accesses = filter (λ (a : AccessRow). writes a.mode) accesses

-- the first block of the written accesses, or else of all
abbrev pub leading_block : Plan → TaskRow → Option ℕ
leading_block plan task = option_or (first_block_of plan (written task.accesses)) (first_block_of plan task.accesses)

-- the home of that block when the region begins, or else space 1
abbrev pub space_for : Plan → TaskRow → ℕ
space_for plan task = option_map_or (home_in_region plan task.region) (leading_block plan task) 1
