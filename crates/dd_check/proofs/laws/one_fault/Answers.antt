use Rattle.dd_check.proofs.OneTextLemmas.{fault_only}
use Rattle.dd_check.proofs.laws.one_fault.Goals as goal

pub returns : goal.returns
returns c = fault_only
