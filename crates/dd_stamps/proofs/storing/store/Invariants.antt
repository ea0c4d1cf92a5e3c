use Rattle.std.proofs.Common.{◌≡◌, ℕ, ◌<◌, cond, drop, length}
use Rattle.std.specs.Prelude.{slice_index}
use Rattle.dd_kernels.specs.Lists.{element}
use Rattle.dd_views.specs.IndexList.{columns_before, columns_from, index_list}
use Rattle.dd_blocks.specs.Grids.{block_size, pos_of}
use Rattle.dd_spans.specs.Numbers.{is_among}
use Rattle.dd_meaning.specs.Written.{put_value}
use Rattle.dd_stamps.specs.Stamps.{Spends}
use Rattle.dd_stamps.proofs.storing.store.Given as goal

abbrev pub invariant-loop-j : goal.invariant-loop-j
invariant-loop-j g l = record {
  place : l.at ≡ length (columns_before l.view l.j);
  full : length l.values ≡ length l.initial.values;
  stamps : length l.versions.list ≡ length l.initial.versions.list;
  values : (q : ℕ) → q < block_size l.grid l.block
      → put_value (columns_from l.view l.j) (drop l.at l.from) (pos_of l.grid l.block q) (element l.values q)
      ≡ put_value (index_list l.view) l.from (pos_of l.grid l.block q) (element l.initial.values q);
  versions : (q : ℕ) → q < block_size l.grid l.block
      → cond (is_among (columns_from l.view l.j) (pos_of l.grid l.block q)) l.task (slice_index l.versions.list q)
      ≡ cond (is_among (index_list l.view) (pos_of l.grid l.block q)) l.task (slice_index l.initial.versions.list q);
  spare : Spends g.written l.task l.initial.versions l.versions;
}

abbrev pub ghost-store_column : goal.ghost-store_column
ghost-store_column g a = g.written
