use Rattle.std.proofs.Common.{◌-◌, ◌≤◌, map}
use Rattle.std.specs.List.{range_with_len}
use Rattle.dd_transfers.specs.Visits.{Visited, visit_at}
use Rattle.dd_transfers.proofs.columns.visit_runs.Given as goal

abbrev pub invariant-loop-done : goal.invariant-loop-done
invariant-loop-done l = record {
  within : l.done ≤ l.count;
  visited : Visited (map (visit_at l.plan l.homes l.visit l.array) (range_with_len l.first l.done)) l.fn.marks l.marks l.moved;
}

abbrev pub decreases-loop-done : goal.decreases-loop-done
decreases-loop-done l = l.count - l.done
