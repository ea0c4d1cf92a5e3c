-- A new array and its blocks.
use Rattle.std.specs.Prelude.{◌≡◌, ℕ, ◌+◌, ◌≤◌, suc, [], ◌∷◌, ◌++◌, length}
use Rattle.dd_blocks.specs.declared.array_row.ArrayRow.{ArrayRow}
use Rattle.dd_blocks.specs.declared.block_row.BlockRow.{BlockRow}
use Rattle.dd_blocks.specs.declared.fill.Fill.{Fill}
use Rattle.dd_blocks.specs.declared.grid.Grid.{Grid}
use Rattle.dd_blocks.specs.declared.plan.Plan.{Plan}
use Rattle.dd_blocks.specs.Grids.{IsGrid, block_count, block_size, element_count}
use Rattle.dd_blocks.specs.Layout.{blocks_in, elements_in, first_home}
use Rattle.dd_blocks.specs.Limits.{arrays_limit, blocks_limit, elements_limit}
use Rattle.dd_check.specs.declared.draft.Draft.{Draft}
use Rattle.dd_check.specs.Effects.{add_array}
use Rattle.dd_check.specs.Rows.{next_array}

-- the limits are kept where such an array stands behind those of the plan
pub record FitsBehind (plan : Plan) (grid : Grid) : Type 0 where
  pub grid_is : IsGrid grid
  pub arrays : suc (length plan.arrays) ≤ arrays_limit
  pub elements : elements_in plan.arrays + element_count grid ≤ elements_limit
  pub blocks : blocks_in plan.arrays + block_count grid ≤ blocks_limit

-- the row of the block at a place of the array
abbrev pub block_at : ArrayRow → ℕ → ℕ → ℕ → BlockRow
block_at array n spaces i = record { array = n; home = first_home spaces (array.first_block + i); size = block_size array.grid i }

-- the array stands behind those of the draft, with one name, and nothing else has changed
pub record HasArray (old : Draft) (grid : Grid) (fill : Fill) (new : Draft) : Type 0 where
  pub plan : new.plan ≡ add_array (next_array old.plan grid fill) old.plan
  pub names : new.names ≡ old.names
  pub counts : new.counts.items ≡ old.counts.items ++ 1 ∷ []
  pub homes : new.homes.items ≡ old.homes.items ++ 0 ∷ []
  pub opened : new.opened ≡ old.opened
  pub settled : new.settled ≡ old.settled
  pub elements : new.elements ≡ old.elements + element_count grid
  pub regions : new.regions ≡ old.regions
  pub touches : new.touches ≡ old.touches
