use Rattle.std.proofs.Common.{refl}
use Rattle.dd_alias.proofs.meeting.share.Goals as goal

pub returns-then-are_apart : goal.returns-then-are_apart
returns-then-are_apart c = (
  (λ e. absurd (cc)),
  (λ meets.
      let here = meets.1 in
      absurd (c.if-are_apart.ensures.apart refl here.0 (here.1.0, here.1.2.row) (here.2.0, here.2.2.row))),
)

pub returns-then-are_apart-2 : goal.returns-then-are_apart-2
returns-then-are_apart-2 c = (
  (λ e. absurd (cc)),
  (λ meets.
      let here = meets.1 in
      absurd (c.if-are_apart-2.ensures.apart refl meets.0 (here.1.1, here.1.2.col) (here.2.1, here.2.2.col))),
)
