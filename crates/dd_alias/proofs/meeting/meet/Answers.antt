use Rattle.dd_alias.proofs.meeting.meet.Goals as goal

pub meet_along_fewer-requires-clause-rows : goal.meet_along_fewer-requires-clause-rows
meet_along_fewer-requires-clause-rows c = λ x. (
  (λ has.
      let both = (c.common-rows.ensures x).0 has in
      ((c.run_of.ensures x).0 both.0, (c.run_of-2.ensures x).0 both.1)),
  (λ both. (c.common-rows.ensures x).1 ((c.run_of.ensures x).1 both.0, (c.run_of-2.ensures x).1 both.1)),
)

pub meet_along_fewer-requires-clause-cols : goal.meet_along_fewer-requires-clause-cols
meet_along_fewer-requires-clause-cols c = λ x. (
  (λ has.
      let both = (c.common-cols.ensures x).0 has in
      ((c.run_of-3.ensures x).0 both.0, (c.run_of-4.ensures x).0 both.1)),
  (λ both. (c.common-cols.ensures x).1 ((c.run_of-3.ensures x).1 both.0, (c.run_of-4.ensures x).1 both.1)),
)
