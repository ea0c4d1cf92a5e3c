use Rattle.std.proofs.Common.{◌≡◌, ◌+◌, pos, map}
use Rattle.std.specs.List.{range_with_len}
use Rattle.dd_plain.proofs.world.rising.Given as goal

abbrev pub invariant-loop-p : goal.invariant-loop-p
invariant-loop-p l = l.values.items ≡ map (λ p. pos (p + 1)) (range_with_len 0 l.p)
