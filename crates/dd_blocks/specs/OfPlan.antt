-- What is known of an array and of an access of a Plan whose blocks have rows.
use Rattle.std.specs.Prelude.{◌+◌, ◌≤◌, length}
use Rattle.dd_views.specs.Views.{IsViewOf}
use Rattle.dd_blocks.specs.declared.access_row.AccessRow.{AccessRow}
use Rattle.dd_blocks.specs.declared.array_row.ArrayRow.{ArrayRow}
use Rattle.dd_blocks.specs.declared.plan.Plan.{Plan}
use Rattle.dd_blocks.specs.Grids.{IsGrid, block_count}
use Rattle.dd_blocks.specs.Numbered.{IsNumberIn, array_row}
use Rattle.dd_blocks.specs.Tasks.{shape_in}

-- the blocks of the array have rows
pub record HasBlocks (plan : Plan) (array : ArrayRow) : Type 0 where
  pub grid : IsGrid array.grid
  pub first : 1 ≤ array.first_block
  pub last : array.first_block + block_count array.grid ≤ length plan.blocks + 1

-- the access has a view of an array of the Plan
pub record IsOfPlan (plan : Plan) (access : AccessRow) : Type 0 where
  pub array : IsNumberIn plan.arrays access.view.array
  pub view : IsViewOf (shape_in (array_row plan access.view.array)) access.view
