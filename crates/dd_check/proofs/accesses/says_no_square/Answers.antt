use Rattle.dd_views.specs.declared.fault.ViewFault.TheVariants.{NotSquare}
use Rattle.dd_check.proofs.SaidLemmas.{not_said_after}
use Rattle.dd_check.proofs.accesses.says_no_square.Goals as goal

pub returns-in-Err-BadRange : goal.returns-in-Err-BadRange
returns-in-Err-BadRange c = not_said_after c.view.result NotSquare (λ e. cc) c.requires.ranges c.view.ensures.not_square

pub returns-in-Ok : goal.returns-in-Ok
returns-in-Ok c = not_said_after c.view.result NotSquare (λ e. cc) c.requires.ranges c.view.ensures.not_square
