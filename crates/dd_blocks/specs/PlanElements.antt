-- The elements of a Plan: their numbers among all elements, and where they stand in blocks. Elements and the places of a
-- block are numbered from 0, arrays and blocks from 1.
use Rattle.std.specs.Prelude.{ℕ, ◌+◌, ◌-◌, ◌<◌, List, map, length}
use Rattle.std.specs.List.{flat_map, range_with_len}
use Rattle.dd_blocks.specs.declared.grid.Grid.{Grid}
use Rattle.dd_blocks.specs.declared.plan.Plan.{Plan}
use Rattle.dd_blocks.specs.Charges.{block_with}
use Rattle.dd_blocks.specs.Elements.{Element}
use Rattle.dd_blocks.specs.Grids.{element_count, place_in_block, pos_of}
use Rattle.dd_blocks.specs.Numbered.{IsNumberIn, array_row, block_row}

-- an element of an array of the Plan
pub record IsElement (plan : Plan) (e : Element) : Type 0 where
  pub array : IsNumberIn plan.arrays e.array
  pub within : e.pos < element_count (array_row plan e.array).grid

-- all elements of an array, and those of all arrays, one array after the other
abbrev pub elements_of : Plan → ℕ → List Element
elements_of plan n = map (λ p. record { array = n; pos = p }) (range_with_len 0 (element_count (array_row plan n).grid))

abbrev pub elements : Plan → List Element
elements plan = flat_map (elements_of plan) (range_with_len 1 (length plan.arrays))

-- how many elements stand before an element in that list
abbrev pub number_of : Plan → Element → ℕ
number_of plan e = (array_row plan e.array).first_element + e.pos

-- the block that has an element, and the element's place in it
abbrev pub block_of_element : Plan → Element → ℕ
block_of_element plan e = block_with plan e.array e.pos

abbrev pub place_of_element : Plan → Element → ℕ
place_of_element plan e = place_in_block (array_row plan e.array).grid e.pos

-- the grid of a block's array, and the block's number in it, from 0
abbrev pub grid_of : Plan → ℕ → Grid
grid_of plan block = (array_row plan (block_row plan block).array).grid

abbrev pub block_in_grid : Plan → ℕ → ℕ
block_in_grid plan block = block - (array_row plan (block_row plan block).array).first_block

-- the element at a place of a block
abbrev pub element_of : Plan → ℕ → ℕ → Element
element_of plan block place = record { array = (block_row plan block).array; pos = pos_of (grid_of plan block) (block_in_grid plan block) place }
