use Rattle.std.proofs.Common.{◌≡◌, take}
use Rattle.dd_blocks.specs.Homes.{home_after}
use Rattle.dd_blocks.proofs.plan.home_after.Given as goal

abbrev pub invariant-loop-row : goal.invariant-loop-row
invariant-loop-row l = l.home ≡ home_after l.array l.before (take l.row-index l.rows)
