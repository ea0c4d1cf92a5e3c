-- What is done below the place, with what is still to come, is the whole result.
use Rattle.std.proofs.Common.{◌≡◌, ℤ, ◌++◌, take, drop, map}
use Rattle.dd_kernels.specs.Lists.{ComputesOne}
use Rattle.dd_kernels.proofs.in_place.update_each.Given as goal

abbrev pub invariant-loop-a : goal.invariant-loop-a
invariant-loop-a g l =
    (op : ℤ → ℤ) → ComputesOne (goal.F-post g l.f) op → take l.a-index l.x ++ map op (drop l.a-index l.x) ≡ map op l.fn.x
