-- The work stays the one that was made.
use Rattle.std.proofs.Common.{◌≡◌}
use Rattle.dd_stamps.specs.declared.work.Stage.TheVariants.{Collecting}
use Rattle.copy_bench.proofs.tiles.work_of.Given as goal

abbrev pub invariant-loop-block : goal.invariant-loop-block
invariant-loop-block l = (l.work.stage ≡ Collecting) × (l.work.plan ≡ l.initial.work.plan) × (l.work.task ≡ l.initial.work.task)
