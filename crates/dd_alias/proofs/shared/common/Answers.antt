use Rattle.std.proofs.Common.{arith}
use Rattle.dd_alias.proofs.shared.common.Goals as goal

pub returns : goal.returns
returns c = λ x. (
  (λ has.
      let both = (c.common_behind.ensures x).0 has in
      (((c.at_least.ensures.exact x).0 both.0).0, both.1)),
  (λ both. (c.common_behind.ensures x).1 ((c.at_least.ensures.exact x).1 (both.0, omega (arith, both.1.0.1)), both.1)),
)
