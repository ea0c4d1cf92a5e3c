-- What is done below the block, with what is still to come, is the whole result.
use Rattle.std.proofs.Common.{◌≡◌, ℤ, ◌*◌, ◌++◌, take, drop, map}
use Rattle.dd_kernels.specs.Lists.{ComputesOne}
use Rattle.dd_kernels.proofs.in_place.update.Given as goal

abbrev pub invariant-loop-k : goal.invariant-loop-k
invariant-loop-k g l =
    (op : ℤ → ℤ) → ComputesOne (goal.F-post g l.f) op → take (8 * l.k) l.x ++ map op (drop (8 * l.k) l.x) ≡ map op l.fn.x
