use Rattle.dd_check.proofs.OneTextLemmas.{plan_only}
use Rattle.dd_check.proofs.laws.one_plan.Goals as goal

pub returns : goal.returns
returns c = plan_only
