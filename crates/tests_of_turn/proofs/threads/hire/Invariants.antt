use Rattle.dd_turn.specs.Locks.{IsSeatOf}
use Rattle.dd_turn.specs.Seats.{IsFree}
use Rattle.tests_of_turn.proofs.threads.hire.Given as goal

abbrev pub invariant-loop-worker : goal.invariant-loop-worker
invariant-loop-worker g l = IsSeatOf l.fn.turn l.seat × IsFree l.fn.goal l.seat
