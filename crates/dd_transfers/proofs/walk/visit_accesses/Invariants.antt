use Rattle.std.proofs.Common.{take}
use Rattle.std.specs.List.{flat_map}
use Rattle.dd_transfers.specs.Visits.{Visited, access_visits}
use Rattle.dd_transfers.proofs.walk.visit_accesses.Given as goal

abbrev pub invariant-loop-access : goal.invariant-loop-access
invariant-loop-access l = Visited (flat_map (access_visits l.plan l.homes l.visit) (take l.access-index l.task.accesses)) l.fn.marks l.marks l.moved
