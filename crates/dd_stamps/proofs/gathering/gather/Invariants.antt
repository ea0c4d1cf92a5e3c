use Rattle.std.proofs.Common.{◌≡◌, get_or, length, pos}
use Rattle.std.specs.Prelude.{nat_eq, slice_index}
use Rattle.dd_blocks.specs.Grids.{block_of, place_in_block}
use Rattle.dd_views.specs.IndexList.{columns_before, index_list}
use Rattle.dd_stamps.proofs.GatheredLemmas.{IsGathering}
use Rattle.dd_stamps.proofs.gathering.gather.Given as goal

abbrev pub invariant-loop-j : goal.invariant-loop-j
invariant-loop-j l = record {
  place : l.at ≡ length (columns_before l.view l.j);
  done : IsGathering (λ k. nat_eq (block_of l.grid (slice_index (index_list l.view) k)) l.block)
      (λ k. get_or l.values (place_in_block l.grid (slice_index (index_list l.view) k)) (pos 0)) l.at l.initial.into l.into;
}
