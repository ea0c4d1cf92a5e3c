-- The last space of the rows so far.
use Rattle.std.proofs.Common.{◌≡◌, take, None}
use Rattle.std.specs.List.{last_or}
use Rattle.dd_blocks.specs.Homes.{spaces_of}
use Rattle.dd_owed.proofs.blocks.last_space.Given as goal

abbrev pub invariant-loop-row : goal.invariant-loop-row
invariant-loop-row l = l.space ≡ last_or None (spaces_of l.array (take l.row-index l.rows))
