use Rattle.std.proofs.Common.{ℕ}
use Rattle.dd_alias.proofs.ConflictLemmas.{two_of_shapes}
use Rattle.tests_of_tasks.proofs.conflicts.tasks_are_in_conflict.Goals as goal

pub conflict-requires : goal.conflict-requires
conflict-requires g c = two_of_shapes (λ (n : ℕ). record { rows = 16; cols = 1 }) c.in_ok-u.u c.in_ok-t.t c.in_ok-u.ensures c.in_ok-t.ensures

pub conflict-requires-in-loop-row : goal.conflict-requires-in-loop-row
conflict-requires-in-loop-row g c = two_of_shapes (λ (n : ℕ). record { rows = 16; cols = 1 }) c.in_ok-t.t c.in_ok-u.u c.in_ok-t.ensures c.in_ok-u.ensures
