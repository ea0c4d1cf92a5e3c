-- The tasks so far, and those that are left.
use Rattle.std.proofs.Common.{◌≡◌, ◌++◌, length, drop}
use Rattle.dd_check.specs.Rows.{with_found}
use Rattle.dd_check.proofs.region_end.add_tasks.Given as goal

abbrev pub invariant-loop-task : goal.invariant-loop-task
invariant-loop-task l = (l.place ≡ length l.yielded)
    × (l.tasks ++ with_found l.before (drop l.place l.fn.region.items) (drop l.place l.found) ≡ l.fn.tasks ++ with_found l.before l.fn.region.items l.found)
