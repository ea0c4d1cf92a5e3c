use Rattle.std.proofs.Common.{◌≡◌, ℕ, ◌<◌, ◌≤◌}
use Rattle.std.specs.Prelude.{slice_index}
use Rattle.dd_stamps.proofs.storing.stamp.Given as goal

abbrev pub invariant-loop-place : goal.invariant-loop-place
invariant-loop-place g l = record {
  same : l.versions ≡ l.initial.versions;
  stamped : (p : ℕ) → l.first ≤ p → p < l.place → slice_index l.versions.list p ≡ l.task;
}
