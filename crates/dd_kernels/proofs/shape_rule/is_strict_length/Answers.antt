use Rattle.std.proofs.Common.{◌*◌, rules, tests, arith}
use Rattle.dd_kernels.proofs.ShapesLemmas.{strict_by_root}
use Rattle.dd_kernels.proofs.shape_rule.is_strict_length.Goals as goal

pub returns : goal.returns
returns c =
    let by_root = strict_by_root (2 * c.args.rows) c.isqrt-root.result (omega (arith, c.isqrt-root.ensures.square_le)) (omega (arith, c.isqrt-root.ensures.next_square_gt)) in
    (λ equal. by_root.0 (search (rules, tests)), λ some. let exact = by_root.1 some in search (rules, tests))
