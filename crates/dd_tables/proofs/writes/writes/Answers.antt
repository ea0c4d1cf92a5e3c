use Rattle.dd_tables.proofs.PlacesLemmas.{are_views}
use Rattle.dd_tables.proofs.writes.writes.Goals as goal

pub is_written_by-requires : goal.is_written_by-requires
is_written_by-requires c = rw c.task.ensures (are_views c.args.plan.now c.args.task c.requires.well c.requires.task)
