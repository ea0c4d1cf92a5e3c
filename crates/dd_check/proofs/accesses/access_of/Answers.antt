use Rattle.dd_check.proofs.SeenLemmas.{no_fault}
use Rattle.dd_check.proofs.accesses.access_of.Goals as goal

pub returns-in-Err-clause-some : goal.returns-in-Err-clause-some
returns-in-Err-clause-some c =
    absurd (no_fault c.view.result _ c.in-Err.is c.requires.ranges c.requires.squares c.view.ensures.bad_range c.view.ensures.not_square)
