use Rattle.std.proofs.Common.{arith}
use Rattle.dd_alias.proofs.meeting.meet_along.Goals as goal

pub meet_between-requires-clause-a : goal.meet_between-requires-clause-a
meet_between-requires-clause-a c = λ t before. c.requires.a t ((c.count.ensures t).0 before)

pub meet_between-requires-clause-b : goal.meet_between-requires-clause-b
meet_between-requires-clause-b c = λ t before. c.requires.b t ((c.count.ensures t).0 before)

pub returns : goal.returns
returns c = (
  (λ yes.
      let found = c.meet_between.ensures.0 yes in
      (found.0, (c.count.ensures found.0).0 found.2, found.3)),
  (λ some. c.meet_between.ensures.1 (some.0, omega arith, (c.count.ensures some.0).1 some.1, some.2)),
)
