-- What there would be of each quantity, with its limit, where it is one list for all that a statement says.
use Rattle.std.specs.Prelude.{ℕ, suc, ◌+◌, List, [], ◌∷◌, length}
use Rattle.dd_blocks.specs.declared.grid.Grid.{Grid}
use Rattle.dd_blocks.specs.declared.plan.Plan.{Plan}
use Rattle.dd_blocks.specs.Grids.{block_count, element_count}
use Rattle.dd_blocks.specs.Layout.{blocks_in, elements_in}
use Rattle.dd_blocks.specs.Limits.{arrays_limit, blocks_limit, elements_limit, touches_limit}
use Rattle.dd_blocks.specs.Touches.{blocks_of}
use Rattle.dd_check.specs.Above.{Above}
use Rattle.dd_check.specs.Kinds.{array_of_name, touches_with}

-- one amount, with one more array of the grid, and with a touch of each block of an array
abbrev pub amount_alone : ℕ → ℕ → List (ℕ × ℕ)
amount_alone amount limit = (amount, limit) ∷ []

abbrev pub amounts_of_array : Plan → Grid → List (ℕ × ℕ)
amounts_of_array plan grid =
    (suc (length plan.arrays), arrays_limit)
    ∷ (elements_in plan.arrays + element_count grid, elements_limit)
    ∷ (blocks_in plan.arrays + block_count grid, blocks_limit)
    ∷ []

abbrev pub amounts_of_touch : Above → List ℕ → List (ℕ × ℕ)
amounts_of_touch s name = amount_alone (touches_with s (blocks_of s.plan (array_of_name s name))) touches_limit
