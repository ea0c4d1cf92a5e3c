use Rattle.std.proofs.Common.{◌≡◌, ◌<◌, map}
use Rattle.std.specs.List.{range_with_len}
use Rattle.dd_views.specs.Positions.{position_in}
use Rattle.dd_transfers.specs.Visits.{Visited, visit_at}
use Rattle.dd_transfers.proofs.columns.visit_steps.Given as goal

abbrev pub invariant-loop-i : goal.invariant-loop-i
invariant-loop-i l = record {
  here : l._i < l.fn.column.count → l.pos ≡ position_in l.fn.column l._i;
  visited : Visited (map (visit_at l.plan l.homes l.visit l.array) (map (position_in l.fn.column) (range_with_len 0 l._i))) l.fn.marks l.marks l.moved;
}
