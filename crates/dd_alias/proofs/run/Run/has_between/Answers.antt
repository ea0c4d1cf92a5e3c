use Rattle.std.proofs.Common.{arith}
use Rattle.std.proofs.lemmas.Bool.{leb-true, le-leb}
use Rattle.dd_alias.proofs.run.Run.has_between.Goals as goal

pub returns : goal.returns
returns c =
    let rest = c.at_least-rest.result in (
      (λ there.
          let le = leb-true _ _ there in
          let own = (c.at_least-rest.ensures.exact rest.first).0 ((0, omega arith), omega (arith, le, c.min.ensures)) in
          (rest.first, own.0, own.1, omega (arith, le, c.min.ensures))),
      (λ some.
          let there = (c.at_least-rest.ensures.exact some.0).1 (some.1, some.2) in
          le-leb _ _ (omega (arith, there.0.1, there.1, some.3, c.min.ensures))),
    )
