use Rattle.dd_turn.specs.Locks.{IsSeatOf}
use Rattle.dd_turn.specs.Seats.{IsFree}
use Rattle.tests_of_turn.proofs.worker.work.Given as goal

abbrev pub invariant-loop : goal.invariant-loop
invariant-loop g l =
    (goal.iterator-loop g).can_next l.iterator' × (goal.iterator-loop g).is_finite l.iterator'
    × IsSeatOf l.fn.turn l.seat × IsFree l.fn.goal l.seat
