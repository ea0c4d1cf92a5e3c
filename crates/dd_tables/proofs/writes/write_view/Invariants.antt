use Rattle.std.proofs.Common.{◌≡◌, ◌+◌, ℕ, cond, eqb, length, take, slice_index}
use Rattle.std.specs.List.{list_any}
use Rattle.dd_views.specs.IndexList.{index_list}
use Rattle.dd_tables.proofs.writes.write_view.Given as goal

abbrev pub invariant-loop-i : goal.invariant-loop-i
invariant-loop-i l = record {
  len : length l.current.list ≡ length l.fn.current.list;
  values : (n : ℕ) → slice_index l.current.list n ≡ cond (list_any (λ pos. eqb (l.first + pos) n) (take l.i (index_list l.view))) l.version (slice_index l.fn.current.list n);
}
