-- All accesses so far are views of such columns.
use Rattle.std.proofs.Common.{ℕ}
use Rattle.dd_alias.specs.Shapes.{AreViewsBy}
use Rattle.tests_of_tasks.proofs.samples.sample.Given as goal

abbrev pub invariant-loop-access : goal.invariant-loop-access
invariant-loop-access l = AreViewsBy (λ (n : ℕ). record { rows = 16; cols = 1 }) l.rows.items
