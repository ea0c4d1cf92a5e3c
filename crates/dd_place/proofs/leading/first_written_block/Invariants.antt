use Rattle.std.proofs.Common.{◌≡◌, drop}
use Rattle.dd_place.specs.Leading.{first_block_of, written}
use Rattle.dd_place.proofs.leading.first_written_block.Given as goal

abbrev pub invariant-loop-access : goal.invariant-loop-access
invariant-loop-access l = first_block_of l.plan (written l.accesses) ≡ first_block_of l.plan (written (drop l.access-index l.accesses))
