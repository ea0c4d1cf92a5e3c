use Rattle.dd_check.proofs.LinesLemmas.{cut_at_feed, cut_at_end}
use Rattle.dd_check.proofs.lines.first_line.Goals as goal

pub returns-in-Some-clause-lines : goal.returns-in-Some-clause-lines
returns-in-Some-clause-lines c = cut_at_feed _ _ c.in-Some.ensures.0 c.in-Some.ensures.1

pub returns-in-None-clause-lines : goal.returns-in-None-clause-lines
returns-in-None-clause-lines c = cut_at_end _ c.requires c.in-None.ensures
