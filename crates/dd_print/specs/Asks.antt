-- What the statements that print ask for.
use Rattle.std.specs.Prelude.{ℕ, ◌+◌, ◌*◌, List, [], ◌∷◌, map}
use Rattle.std.specs.List.{flat_map, range_with_len}
use Rattle.dd_blocks.specs.declared.plan.Plan.{Plan}
use Rattle.dd_blocks.specs.Grids.{block_cols, block_rows}
use Rattle.dd_blocks.specs.Numbered.{array_row}
use Rattle.dd_machine.specs.declared.event.Event.{Event}
use Rattle.dd_machine.specs.declared.event.Event.TheVariants.{Ask, Rest}
use Rattle.dd_machine.specs.Owed.{blocks_by_rows, blocks_of}
use Rattle.dd_machine.specs.States.{State}

-- a block is asked for at its home, and given up
abbrev pub bring_one : State → ℕ → List Event
bring_one st block = Ask (st.homes block) block ∷ Rest ∷ []

-- each of some blocks is
abbrev pub bring_events : State → List ℕ → List Event
bring_events st blocks = flat_map (bring_one st) blocks

-- those of an array row by row of blocks, for its rows; by rising numbers, for its sum
abbrev pub print_events : Plan → State → ℕ → List Event
print_events plan st array = bring_events st (blocks_by_rows plan array)

abbrev pub sum_events : Plan → State → ℕ → List Event
sum_events plan st array = bring_events st (blocks_of plan array)

-- the block in row i and column j of an array's blocks, both from 0
abbrev pub block_at : Plan → ℕ → ℕ → ℕ → ℕ
block_at plan array i j = (array_row plan array).first_block + (j * block_rows (array_row plan array).grid + i)

-- the blocks in row i, from the left
abbrev pub row_blocks : Plan → ℕ → ℕ → List ℕ
row_blocks plan array i = map (block_at plan array i) (range_with_len 0 (block_cols (array_row plan array).grid))
