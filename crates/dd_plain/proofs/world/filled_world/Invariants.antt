use Rattle.std.proofs.Common.{◌≡◌, ◌++◌, map, drop}
use Rattle.dd_meaning.specs.Worlds.{filled}
use Rattle.dd_plain.specs.Lists.{lists_of}
use Rattle.dd_plain.proofs.world.filled_world.Given as goal

abbrev pub invariant-loop-array : goal.invariant-loop-array
invariant-loop-array l = lists_of l.world.items ++ map filled (drop l.array-index l.arrays) ≡ map filled l.arrays
