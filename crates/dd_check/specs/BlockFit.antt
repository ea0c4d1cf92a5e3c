-- The fault of some blocks that are placed.
use Rattle.std.specs.Prelude.{◌≡◌, ℕ, ◌*◌, List, Option, None, Some, find}
use Rattle.dd_blocks.specs.declared.block_row.BlockRow.{BlockRow}
use Rattle.dd_blocks.specs.declared.plan.Plan.{Plan}
use Rattle.dd_blocks.specs.Numbered.{space_row}
use Rattle.dd_check.specs.declared.fault.Fault.{Fault}
use Rattle.dd_check.specs.declared.kind.Kind.TheVariants.{BlockTooLarge}
use Rattle.dd_check.specs.Kinds.{is_too_large}

-- the fault is that of the first block which is too large, and there is none where no block is
abbrev pub IsLargeFault : Plan → ℕ → List BlockRow → Option Fault → Type 0
IsLargeFault plan line blocks None = find (is_too_large plan) blocks ≡ None
IsLargeFault plan line blocks (Some fault) = (block : BlockRow) × (find (is_too_large plan) blocks ≡ Some block)
    × (fault ≡ record { line = line; kind = BlockTooLarge; a = 16 * block.size; b = (space_row plan block.home).limit })
