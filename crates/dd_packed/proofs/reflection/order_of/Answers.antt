use Rattle.std.proofs.Common.{◌≡◌, ◌+◌, ◌*◌, ℕ, length, arith}
use Rattle.dd_kernels.proofs.ShapesLemmas.{order_from_root}
use Rattle.dd_packed.proofs.reflection.order_of.Goals as goal

pub returns-clause-square : goal.returns-clause-square
returns-clause-square c =
    let n : ℕ = c.requires.0 in
    let order : n ≡ c.isqrt.result + 1 = order_from_root n (2 * length c.args.p.now) c.isqrt.result c.requires.1 c.requires.2 (omega (arith, c.isqrt.ensures.square_le)) (omega (arith, c.isqrt.ensures.next_square_gt)) in
    rw order at c.requires.2
