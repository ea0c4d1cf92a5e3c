-- The copy is of the block that it was of.
use Rattle.dd_stamps.specs.Copies.{IsOfSameBlock}
use Rattle.copy_bench.proofs.taking.take_all.Given as goal

abbrev pub invariant-loop : goal.invariant-loop
invariant-loop l = IsOfSameBlock l.initial.copy l.copy
