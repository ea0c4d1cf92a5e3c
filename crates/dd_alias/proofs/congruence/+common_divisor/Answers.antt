use Rattle.std.proofs.Common.{◌≡◌, ◌+◌, ◌*◌, ◌/◌, ap, arith}
use Rattle.dd_alias.proofs.congruence.+common_divisor.Goals as goal

pub returns-clause-of_b : goal.returns-clause-of_b
returns-clause-of_b t c =
    let of_rest = c.common_divisor.ensures.of_a in
    let of_a = c.common_divisor.ensures.of_b in
    let times : c.args.b / c.args.a * c.args.a ≡ c.args.b / c.args.a * (of_a.0 * c.common_divisor.result) = ap (λ n. c.args.b / c.args.a * n) of_a.1 in
    (of_rest.0 + c.args.b / c.args.a * of_a.0, omega (arith, of_rest.1, times))
