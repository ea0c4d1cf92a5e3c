use Rattle.std.proofs.Common.{map}
use Rattle.dd_views.specs.IndexList.{columns_before}
use Rattle.dd_transfers.specs.Visits.{Visited, visit_at}
use Rattle.dd_transfers.proofs.walk.visit_view.Given as goal

abbrev pub invariant-loop-j : goal.invariant-loop-j
invariant-loop-j l = Visited (map (visit_at l.plan l.homes l.visit l.view.array) (columns_before l.view l.j)) l.fn.marks l.marks l.moved
