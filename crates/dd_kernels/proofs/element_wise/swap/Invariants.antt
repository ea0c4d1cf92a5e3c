-- What is done below the block has changed places, and what is left is as it was.
use Rattle.std.proofs.Common.{◌≡◌, ◌*◌, take, drop}
use Rattle.dd_kernels.proofs.element_wise.swap.Given as goal

abbrev pub invariant-loop-k : goal.invariant-loop-k
invariant-loop-k l =
    ((take (8 * l.k) l.x ≡ take (8 * l.k) l.fn.y) × (drop (8 * l.k) l.x ≡ drop (8 * l.k) l.fn.x)) × ((take (8 * l.k) l.y ≡ take (8 * l.k) l.fn.x) × (drop (8 * l.k) l.y ≡ drop (8 * l.k) l.fn.y))
