use Rattle.dd_tables.proofs.PlacesLemmas.{are_views}
use Rattle.dd_tables.proofs.needed.reads.Goals as goal

pub is_read_by-requires : goal.is_read_by-requires
is_read_by-requires c = rw c.task.ensures (are_views c.args.plan.now c.args.task c.requires.well c.requires.task)
