-- What is done below the place is the front of `y`.
use Rattle.std.proofs.Common.{◌≡◌, take}
use Rattle.dd_kernels.proofs.in_place.put.Given as goal

abbrev pub invariant-loop-i : goal.invariant-loop-i
invariant-loop-i l = take l.i l.x ≡ take l.i l.y
