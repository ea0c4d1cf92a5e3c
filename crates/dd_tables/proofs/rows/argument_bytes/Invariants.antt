use Rattle.std.proofs.Common.{◌≡◌, ◌+◌, drop, length}
use Rattle.std.specs.List.{sum_by}
use Rattle.dd_blocks.specs.declared.access_row.AccessRow.{AccessRow}
use Rattle.dd_blocks.specs.Charges.{access_elements}
use Rattle.dd_blocks.specs.Numbered.{task_row}
use Rattle.dd_views.specs.IndexList.{index_list}
use Rattle.dd_tables.proofs.rows.argument_bytes.Given as goal

abbrev pub invariant-loop-access : goal.invariant-loop-access
invariant-loop-access l = l.sum + sum_by (λ (a : AccessRow). length (index_list a.view)) (drop l.access-index (task_row l.plan l.task).accesses) ≡ access_elements (task_row l.plan l.task)
