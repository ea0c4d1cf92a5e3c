-- The copy is of the Plan that it was of, and the tile as long as it was.
use Rattle.std.proofs.Common.{◌≡◌, length}
use Rattle.copy_bench.proofs.tiles.gather_and_store.Given as goal

abbrev pub invariant-loop : goal.invariant-loop
invariant-loop l = (l.copy.plan ≡ l.initial.copy.plan) × (length l.tile ≡ length l.initial.tile)
