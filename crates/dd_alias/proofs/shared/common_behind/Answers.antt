use Rattle.std.proofs.Common.{arith}
use Rattle.dd_alias.proofs.shared.common_behind.Goals as goal

pub returns-in_default : goal.returns-in_default
returns-in_default c = λ x. (
  (λ none. absurd (c.none_from.ensures.none x none)),
  (λ both. absurd (omega (arith, c.in_default.ensures x both.0.0 both.1.0, both.0.1, c.args.a.now.small))),
)
