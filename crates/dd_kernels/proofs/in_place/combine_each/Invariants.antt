-- What is done below the place, with what is still to come, is the whole result.
use Rattle.std.proofs.Common.{◌≡◌, ℤ, ◌++◌, take, drop}
use Rattle.dd_kernels.specs.Lists.{zip_with, Computes}
use Rattle.dd_kernels.proofs.in_place.combine_each.Given as goal

abbrev pub invariant-loop-i : goal.invariant-loop-i
invariant-loop-i g l =
    (op : ℤ → ℤ → ℤ) → Computes (goal.F-post g l.f) op → take l.i l.x ++ zip_with op (drop l.i l.x) (drop l.i l.y) ≡ zip_with op l.fn.x l.y
