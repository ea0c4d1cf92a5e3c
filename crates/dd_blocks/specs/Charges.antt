-- Which blocks a task touches, and what it takes of the space that it runs in.
use Rattle.std.specs.Prelude.{◌≡◌, ◌↔◌, ℕ, ◌+◌, ◌*◌, max, List, map, length, Contains, sum, sum_by}
use Rattle.std.specs.List.{fold}
use Rattle.std.specs.List.Sorted.{IsStrictlyIncreasing}
use Rattle.dd_views.specs.IndexList.{index_list}
use Rattle.dd_blocks.specs.declared.access_row.AccessRow.{AccessRow}
use Rattle.dd_blocks.specs.declared.plan.Plan.{Plan}
use Rattle.dd_blocks.specs.declared.task_row.TaskRow.{TaskRow}
use Rattle.dd_blocks.specs.Elements.{UsesElement}
use Rattle.dd_blocks.specs.Grids.{block_of}
use Rattle.dd_blocks.specs.Numbered.{array_row, block_row}

-- the number of the block that has a position of an array
abbrev pub block_with : Plan → ℕ → ℕ → ℕ
block_with plan array pos = (array_row plan array).first_block + block_of (array_row plan array).grid pos

-- the block has an element that the task uses
abbrev pub Touches : Plan → TaskRow → ℕ → Type 0
Touches plan task block = (array : ℕ) × (pos : ℕ) × UsesElement task array pos × (block_with plan array pos ≡ block)

-- the numbers, rising, of all blocks that a task touches
pub record AreTouched (plan : Plan) (task : TaskRow) (found : List ℕ) : Type 0 where
  pub rising : IsStrictlyIncreasing found
  pub exact : (block : ℕ) → Contains found block ↔ Touches plan task block

-- the greatest of some numbers, or 0 where there are none
abbrev pub greatest : List ℕ → ℕ
greatest numbers = fold max 0 numbers

-- how many elements the touched blocks have, the accesses, and the largest touched block
abbrev pub touched_sizes : Plan → TaskRow → List ℕ
touched_sizes plan task = map (λ block. (block_row plan block).size) task.blocks

abbrev pub access_elements : TaskRow → ℕ
access_elements task = sum_by (λ (a : AccessRow). length (index_list a.view)) task.accesses

abbrev pub scratch_elements : Plan → TaskRow → ℕ
scratch_elements plan task = greatest (touched_sizes plan task)

-- in bytes, 8 for an element: a copy of each block, the arguments of the kernel, and room to move one block
abbrev pub charge_of : Plan → TaskRow → ℕ
charge_of plan task = 8 * (sum (touched_sizes plan task) + access_elements task + scratch_elements plan task)
