use Rattle.std.proofs.Common.{rules}
use Rattle.dd_views.proofs.PositionsLemmas.{positions_of_run}
use Rattle.dd_plain.proofs.WalkLemmas.{run_within}
use Rattle.dd_lists.proofs.SignedLemmas.{one_step}
use Rattle.dd_plain.proofs.gathering.gather_column.Goals as goal

pub gather_run-requires : goal.gather_run-requires
gather_run-requires c = run_within _ c.args.column c.requires (one_step c.args.column.step (search rules) c.if-column-eq1.true)

pub returns-then-column-eq1 : goal.returns-then-column-eq1
returns-then-column-eq1 c =
    let run = positions_of_run c.args.column (one_step c.args.column.step (search rules) c.if-column-eq1.true) in
    rw run (search rules)
