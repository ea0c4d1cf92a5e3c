use Rattle.std.proofs.Common.{arith}
use Rattle.dd_alias.proofs.RunLemmas.{way_from, from_way}
use Rattle.dd_alias.proofs.run.Run.at_least.Goals as goal

pub returns-in_default-clause-exact : goal.returns-in_default-clause-exact
returns-in_default-clause-exact c = λ x. (
  (λ none. absurd (c.none_from.ensures.none x none)),
  (λ some.
      let way = way_from c.args.self.now.first c.args.self.now.stride c.args.low c.complement.result x (omega arith) c.complement.ensures.exact some.1 some.0.0 in
      absurd (c.in_default.ensures (omega (arith, way.1, some.0.1)))),
)

pub returns-clause-exact : goal.returns-clause-exact
returns-clause-exact c = rw c.in-Some.ensures.1 (λ x. (
  (λ has. ((from_way c.args.self.now.first c.args.self.now.stride c.args.low c.complement.result x (omega arith) c.complement.ensures.exact has.0, has.1), omega (arith, has.0.1))),
  (λ some. (way_from c.args.self.now.first c.args.self.now.stride c.args.low c.complement.result x (omega arith) c.complement.ensures.exact some.1 some.0.0, some.0.1)),
))
