-- The block that is sought is the one so many places on, among those to come.
use Rattle.std.proofs.Common.{◌≡◌, ◌+◌, ◌≤◌, nat_eq, not}
use Rattle.std.specs.List.{slice_get}
use Rattle.dd_blocks.specs.Grids.{block_count}
use Rattle.dd_blocks.specs.Homes.{home_before}
use Rattle.dd_machine.specs.Owed.{blocks_elsewhere}
use Rattle.dd_owed.proofs.PiecesLemmas.{passing}
use Rattle.dd_owed.proofs.blocks.block_elsewhere_at.Given as goal

abbrev pub invariant-loop-j : goal.invariant-loop-j
invariant-loop-j l =
    (slice_get (passing (λ b. not (nat_eq (home_before l.plan l.row b) l.space)) l.found.first_block (block_count l.found.grid) l.j) l.left
    ≡ slice_get (blocks_elsewhere l.plan l.row l.array l.space) l.i)
    × (l.i ≤ l.left + l.j)
