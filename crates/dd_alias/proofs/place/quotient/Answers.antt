use Rattle.std.proofs.Common.{sym, arith}
use Rattle.dd_views.proofs.WayLemmas.{exact}
use Rattle.dd_alias.proofs.place.quotient.Goals as goal

pub returns-then-divisor-eq1 : goal.returns-then-divisor-eq1
returns-then-divisor-eq1 c = rw c.if-divisor-eq1.true (sym (exact c.args.number 1 c.args.number (omega arith) (omega arith)))
