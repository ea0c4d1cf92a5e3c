-- What is done below the block, with what is still to come, is the whole result.
use Rattle.std.proofs.Common.{◌≡◌, ℤ, ◌*◌, ◌++◌, take, drop}
use Rattle.dd_kernels.specs.Lists.{zip_with, Computes}
use Rattle.dd_kernels.proofs.in_place.combine.Given as goal

abbrev pub invariant-loop-k : goal.invariant-loop-k
invariant-loop-k g l =
    (op : ℤ → ℤ → ℤ) → Computes (goal.F-post g l.f) op → take (8 * l.k) l.x ++ zip_with op (drop (8 * l.k) l.x) (drop (8 * l.k) l.y) ≡ zip_with op l.fn.x l.y
