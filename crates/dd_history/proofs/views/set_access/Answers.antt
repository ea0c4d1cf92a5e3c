use Rattle.dd_history.proofs.FinishLemmas.{numbers_within}
use Rattle.dd_history.proofs.views.set_access.Goals as goal

pub set_view-requires-clause-within : goal.set_view-requires-clause-within
set_view-requires-clause-within c =
    rw c.array.ensures (numbers_within c.args.plan.now c.args.access.now c.args.versions.now.list c.requires.well c.requires.access c.requires.count)
