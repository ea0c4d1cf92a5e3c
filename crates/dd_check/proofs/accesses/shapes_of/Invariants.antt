use Rattle.std.proofs.Common.{◌≡◌, take}
use Rattle.dd_blocks.specs.Tasks.{shapes_in}
use Rattle.dd_check.proofs.accesses.shapes_of.Given as goal

abbrev pub invariant-loop-access : goal.invariant-loop-access
invariant-loop-access l = l.shapes.items ≡ shapes_in (take l.access-index l.accesses)
