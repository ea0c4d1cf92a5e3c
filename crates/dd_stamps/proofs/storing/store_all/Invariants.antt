use Rattle.std.proofs.Common.{◌≡◌, ℕ, ◌<◌, cond, drop, length}
use Rattle.std.specs.Prelude.{slice_index}
use Rattle.dd_kernels.specs.Lists.{element}
use Rattle.dd_blocks.specs.Grids.{block_size, pos_of}
use Rattle.dd_meaning.specs.Lists.{lists_of}
use Rattle.dd_meaning.specs.Written.{value_stored}
use Rattle.dd_stamps.specs.Stamps.{Spends}
use Rattle.dd_stamps.specs.Stored.{some_writes}
use Rattle.dd_stamps.proofs.storing.store_all.Given as goal

abbrev pub invariant-loop-k : goal.invariant-loop-k
invariant-loop-k g l = record {
  full : length l.values ≡ length l.initial.values;
  stamps : length l.versions.list ≡ length l.initial.versions.list;
  values : (q : ℕ) → q < block_size l.grid l.block
      → value_stored (drop l.k l.accesses) (drop l.k (lists_of l.bufs)) (record { array = l.array; pos = pos_of l.grid l.block q }) (element l.values q)
      ≡ value_stored l.accesses (lists_of l.bufs) (record { array = l.array; pos = pos_of l.grid l.block q }) (element l.initial.values q);
  versions : (q : ℕ) → q < block_size l.grid l.block
      → cond (some_writes (drop l.k l.accesses) (record { array = l.array; pos = pos_of l.grid l.block q })) l.task (slice_index l.versions.list q)
      ≡ cond (some_writes l.accesses (record { array = l.array; pos = pos_of l.grid l.block q })) l.task (slice_index l.initial.versions.list q);
  spare : Spends g.written l.task l.initial.versions l.versions;
}

abbrev pub ghost-store_one : goal.ghost-store_one
ghost-store_one g a = g.written
