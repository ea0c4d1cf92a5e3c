-- All accesses so far are views of such arrays.
use Rattle.std.proofs.Common.{ℕ}
use Rattle.dd_alias.specs.Shapes.{AreViewsBy}
use Rattle.tests_of_tasks.proofs.pairs.drawn_accesses.Given as goal

abbrev pub invariant-loop : goal.invariant-loop
invariant-loop l = AreViewsBy (λ (n : ℕ). record { rows = 12; cols = 12 }) l.accesses.items
