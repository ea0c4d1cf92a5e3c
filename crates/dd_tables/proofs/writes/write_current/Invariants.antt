use Rattle.std.proofs.Common.{◌≡◌, ℕ, cond, length, take, slice_index}
use Rattle.std.specs.List.{list_any}
use Rattle.dd_blocks.specs.Numbered.{task_row}
use Rattle.dd_tables.proofs.CurrentsLemmas.{writes_at}
use Rattle.dd_tables.proofs.writes.write_current.Given as goal

abbrev pub invariant-loop-access : goal.invariant-loop-access
invariant-loop-access l = record {
  len : length l.current.list ≡ length l.fn.current.list;
  values : (n : ℕ) → slice_index l.current.list n ≡ cond (list_any (writes_at l.plan n) (take l.access-index (task_row l.plan l.task).accesses)) l.task (slice_index l.fn.current.list n);
}
