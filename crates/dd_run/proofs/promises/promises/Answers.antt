use Rattle.dd_run.proofs.JournalLemmas.{is_journal}
use Rattle.dd_run.proofs.promises.promises.Goals as goal

pub returns : goal.returns
returns c = is_journal
