-- The numbers that the accesses so far write are set.
use Rattle.std.proofs.Common.{◌≡◌, take}
use Rattle.std.specs.List.{list_any}
use Rattle.dd_blocks.specs.Numbered.{task_row}
use Rattle.dd_history.specs.Sets.{IsSetWhere, writes_at}
use Rattle.dd_history.proofs.views.set_written.Given as goal

abbrev pub invariant-loop-access : goal.invariant-loop-access
invariant-loop-access l =
    IsSetWhere (λ q. list_any (writes_at l.plan q) (take l.access-index (task_row l.plan l.task).accesses)) l.task l.fn.versions.list l.versions.list
    × (l.versions.spare ≡ l.fn.versions.spare)
