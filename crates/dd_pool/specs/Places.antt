-- The cells of spaces and blocks: those of a space stand one after the other, block by block.
use Rattle.std.specs.Prelude.{ℕ, ◌+◌, ◌-◌, ◌*◌, length, sum_by}
use Rattle.std.specs.List.{range_with_len}
use Rattle.dd_blocks.specs.declared.plan.Plan.{Plan}
use Rattle.dd_blocks.specs.Numbered.{IsNumberIn}
use Rattle.dd_stamps.specs.Cells.{size_of}

-- how many cells there are
abbrev pub cell_count : Plan → ℕ
cell_count plan = length plan.spaces * length plan.blocks

-- the place of the cell of a space and a block, from 0
abbrev pub place_of : Plan → ℕ → ℕ → ℕ
place_of plan space block = (space - 1) * length plan.blocks + (block - 1)

-- there is such a space and such a block
pub record IsPlace (plan : Plan) (space block : ℕ) : Type 0 where
  pub a_space : IsNumberIn plan.spaces space
  pub a_block : IsNumberIn plan.blocks block

-- the bytes of all blocks: a space never has more in memory
abbrev pub bytes_of_blocks : Plan → ℕ
bytes_of_blocks plan = sum_by (λ block. 8 * size_of plan block) (range_with_len 1 (length plan.blocks))
