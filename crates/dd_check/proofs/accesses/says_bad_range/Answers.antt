use Rattle.dd_views.specs.declared.fault.ViewFault.TheVariants.{BadRange}
use Rattle.dd_check.proofs.SaidLemmas.{not_said}
use Rattle.dd_check.proofs.accesses.says_bad_range.Goals as goal

pub returns-in-Err-NotSquare : goal.returns-in-Err-NotSquare
returns-in-Err-NotSquare c = not_said c.view.result BadRange (λ e. cc) c.view.ensures.bad_range

pub returns-in-Ok : goal.returns-in-Ok
returns-in-Ok c = not_said c.view.result BadRange (λ e. cc) c.view.ensures.bad_range
