use Rattle.std.proofs.Common.{List, ℕ, map, sym, subst, rules}
use Rattle.dd_views.proofs.PositionsLemmas.{positions_of_run}
use Rattle.dd_transfers.specs.Visits.{Visited, visit_at}
use Rattle.dd_lists.proofs.SignedLemmas.{one_step}
use Rattle.dd_transfers.proofs.columns.visit_column.Goals as goal

pub returns-then-has_long_runs : goal.returns-then-has_long_runs
returns-then-has_long_runs c =
    let one = one_step c.args.column.step (search rules) c.if-column-eq1.true in
    subst (λ (ps : List ℕ). Visited (map (visit_at c.args.plan.now c.args.homes.now c.args.visit c.args.array) ps) c.args.marks.now c.visit_runs.new.marks c.visit_runs.result)
    (sym (positions_of_run c.args.column one)) c.visit_runs.ensures
