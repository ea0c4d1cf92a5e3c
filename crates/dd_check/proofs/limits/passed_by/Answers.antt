use Rattle.dd_check.specs.Drafts.{above_of}
use Rattle.dd_check.proofs.AmountLemmas.{passed_answer}
use Rattle.dd_check.proofs.limits.passed_by.Goals as goal

pub returns : goal.returns
returns c = passed_answer (above_of c.args.draft.now) c.args.x.now c.first_passed.result c.requires.other c.first_passed.ensures
