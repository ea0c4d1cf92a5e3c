use Rattle.std.proofs.Common.{OnOk, IfErr, subst}
use Rattle.dd_check.specs.Above.{Above}
use Rattle.dd_check.specs.Chain.{IsFoundOr}
use Rattle.dd_check.specs.Drafts.{above_of}
use Rattle.dd_check.specs.Effects.{Enters}
use Rattle.dd_check.specs.Faults.{AreClear, kinds}
use Rattle.dd_check.proofs.admission.admit.Goals as goal

pub returns-clause-clear : goal.returns-clause-clear
returns-clause-clear c = subst (λ (a : Above). OnOk c.admit_found.result (AreClear c.args.line a c.args.x kinds)) c.in_ok-prepare.ensures.found c.admit_found.ensures.clear

pub returns-clause-enters : goal.returns-clause-enters
returns-clause-enters c = subst (λ (a : Above). OnOk c.admit_found.result (Enters c.args.line a c.args.x (above_of c.admit_found.new.draft))) c.in_ok-prepare.ensures.found c.admit_found.ensures.enters

pub returns-clause-fault : goal.returns-clause-fault
returns-clause-fault c = subst (λ (a : Above). IfErr c.admit_found.result (λ e. IsFoundOr e c.args.line a c.args.x kinds)) c.in_ok-prepare.ensures.found c.admit_found.ensures.fault
