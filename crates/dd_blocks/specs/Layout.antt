-- How arrays and their blocks are numbered, and where the blocks have their first homes.
use Rattle.std.specs.Prelude.{◌≡◌, ℕ, ◌+◌, ◌-◌, ◌%◌, ◌<◌, List, map, length, take, sum_by}
use Rattle.std.specs.List.{flat_map, range_with_len}
use Rattle.dd_blocks.specs.declared.array_row.ArrayRow.{ArrayRow}
use Rattle.dd_blocks.specs.declared.block_row.BlockRow.{BlockRow}
use Rattle.dd_blocks.specs.declared.plan.Plan.{Plan}
use Rattle.dd_blocks.specs.Grids.{IsGrid, block_count, block_size, element_count}
use Rattle.dd_blocks.specs.Numbered.{numbered, no_array}

-- how many blocks and how many elements some arrays have
abbrev pub blocks_in : List ArrayRow → ℕ
blocks_in arrays = sum_by (λ (a : ArrayRow). block_count a.grid) arrays

abbrev pub elements_in : List ArrayRow → ℕ
elements_in arrays = sum_by (λ (a : ArrayRow). element_count a.grid) arrays

-- the array stands behind these: its first block is the next, and its first element too
pub record StandsBehind (arrays : List ArrayRow) (array : ArrayRow) : Type 0 where
  pub grid : IsGrid array.grid
  pub first_block : array.first_block ≡ blocks_in arrays + 1
  pub first_element : array.first_element ≡ elements_in arrays

-- the blocks have their homes in turn over the spaces
abbrev pub first_home : ℕ → ℕ → ℕ
first_home spaces block = (block - 1) % spaces + 1

-- the rows of an array's blocks, by the array's number and the number of spaces
abbrev pub blocks_of_array : ℕ → ℕ → ArrayRow → List BlockRow
blocks_of_array spaces n array =
    map (λ i. record { array = n; home = first_home spaces (array.first_block + i); size = block_size array.grid i }) (range_with_len 0 (block_count array.grid))

-- the rows of the blocks of all arrays
abbrev pub blocks_of_arrays : ℕ → List ArrayRow → List BlockRow
blocks_of_arrays spaces arrays = flat_map (λ n. blocks_of_array spaces n (numbered no_array arrays n)) (range_with_len 1 (length arrays))

-- each array stands behind those before it, and the blocks are theirs
pub record IsLaidOut (plan : Plan) : Type 0 where
  pub arrays : (i : ℕ) → i < length plan.arrays → StandsBehind (take i plan.arrays) (numbered no_array plan.arrays (i + 1))
  pub blocks : plan.blocks ≡ blocks_of_arrays (length plan.spaces) plan.arrays
