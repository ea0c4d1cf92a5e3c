use Rattle.std.proofs.Common.{◌≡◌, drop}
use Rattle.std.specs.List.{fold}
use Rattle.dd_meaning.specs.Steps.{step}
use Rattle.dd_plain.specs.Lists.{lists_of}
use Rattle.dd_plain.specs.Sizes.{HasSizes}
use Rattle.dd_plain.proofs.task.run_tasks.Given as goal

abbrev pub invariant-loop-task : goal.invariant-loop-task
invariant-loop-task l = record {
  left : fold step (lists_of l.world) (drop l.task-index l.tasks) ≡ fold step (lists_of l.initial.world) l.tasks;
  sizes : HasSizes l.arrays (lists_of l.world);
}
