use Rattle.dd_alias.proofs.MeetingLemmas.{meets_flipped}
use Rattle.dd_alias.proofs.meeting.meet_along_fewer.Goals as goal

pub meet_in_some-requires-clause-rows : goal.meet_in_some-requires-clause-rows
meet_in_some-requires-clause-rows c = rw (c.flipped-flipped_a.ensures.rows, c.flipped-flipped_b.ensures.rows) c.requires.cols

pub meet_in_some-requires-clause-cols : goal.meet_in_some-requires-clause-cols
meet_in_some-requires-clause-cols c = rw (c.flipped-flipped_a.ensures.cols, c.flipped-flipped_b.ensures.cols) c.requires.rows

pub returns-then-count : goal.returns-then-count
returns-then-count c =
    let same = meets_flipped c.args.a.now c.args.b.now c.flipped-flipped_a.result c.flipped-flipped_b.result c.flipped-flipped_a.ensures.elements c.flipped-flipped_b.ensures.elements in
    ((λ yes. same.0 (c.meet_in_some.ensures.0 yes)), (λ meets. c.meet_in_some.ensures.1 (same.1 meets)))
