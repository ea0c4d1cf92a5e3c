use Rattle.std.proofs.Common.{arith}
use Rattle.dd_alias.proofs.meeting.meet_at.Goals as goal

pub returns : goal.returns
returns c = (
  (λ yes.
      let found = c.has_between.ensures.0 yes in (
        found.0,
        found.1,
        (c.rows_at-of_a.ensures.rows found.0 found.1).1 (omega (arith, found.2, c.max.ensures), omega (arith, found.3, c.min.ensures)),
        (c.rows_at-of_b.ensures.rows found.0 found.1).1 (omega (arith, found.2, c.max.ensures), omega (arith, found.3, c.min.ensures)),
      )),
  (λ both.
      let of_a = (c.rows_at-of_a.ensures.rows both.0 both.1).0 both.2 in
      let of_b = (c.rows_at-of_b.ensures.rows both.0 both.1).0 both.3 in
      c.has_between.ensures.1 (both.0, both.1, omega (arith, of_a.0, of_b.0, c.max.ensures), omega (arith, of_a.1, of_b.1, c.min.ensures))),
)
