use Rattle.std.proofs.Common.{◌≡◌, length}
use Rattle.dd_views.specs.IndexList.{columns_from, index_list}
use Rattle.dd_meaning.specs.Steps.{put_at}
use Rattle.dd_plain.proofs.storing.store.Given as goal

abbrev pub invariant-loop-j : goal.invariant-loop-j
invariant-loop-j l = record {
  left : put_at (columns_from l.view l.j) l.rest l.values ≡ put_at (index_list l.view) l.from l.fn.values;
  long : length l.rest ≡ length (columns_from l.view l.j);
}
