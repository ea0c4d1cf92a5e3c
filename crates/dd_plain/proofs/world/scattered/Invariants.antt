use Rattle.std.proofs.Common.{◌≡◌, pos, map}
use Rattle.std.specs.List.{range_with_len}
use Rattle.dd_meaning.specs.Worlds.{lcg}
use Rattle.dd_plain.proofs.world.scattered.Given as goal

abbrev pub invariant-loop-p : goal.invariant-loop-p
invariant-loop-p l = l.values.items ≡ map (λ p. pos (lcg l.seed p)) (range_with_len 0 l.p)
