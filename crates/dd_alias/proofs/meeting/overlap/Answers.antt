use Rattle.std.proofs.Common.{◌≡◌, arith}
use Rattle.dd_views.proofs.ElementsLemmas.{no_rows}
use Rattle.dd_alias.proofs.MeetingLemmas.{is_pattern, meets_shared, shared_meets}
use Rattle.dd_alias.proofs.meeting.overlap.Goals as goal

pub returns-then-a-eq0 : goal.returns-then-a-eq0
returns-then-a-eq0 c = (
  (λ e. absurd (cc)),
  (λ overlaps. absurd (no_rows c.args.a.now overlaps.1.0 c.requires.a c.if-a-eq0.true overlaps.1.1)),
)

pub share-requires-clause-a : goal.share-requires-clause-a
share-requires-clause-a c = is_pattern c.args.a.now c.requires.a (omega arith) (omega arith)

pub share-requires-clause-b : goal.share-requires-clause-b
share-requires-clause-b c =
    let array : c.args.a.now.array ≡ c.args.b.now.array = omega arith in
    let height = c.requires.height array in
    is_pattern c.args.b.now c.requires.b (omega (arith, height)) (omega (arith, height))

pub returns : goal.returns
returns c =
    let array : c.args.a.now.array ≡ c.args.b.now.array = omega arith in
    let height = c.requires.height array in (
      (λ yes. (array, meets_shared c.args.a.now c.args.b.now height (c.share.ensures.0 yes))),
      (λ overlaps. c.share.ensures.1 (shared_meets c.args.a.now c.args.b.now c.requires.a c.requires.b height overlaps.1)),
    )
