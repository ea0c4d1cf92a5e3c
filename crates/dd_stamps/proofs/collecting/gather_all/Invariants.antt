use Rattle.std.proofs.Common.{◌≡◌, ℕ, ◌<◌, ◌≤◌, [], length, get_or}
use Rattle.dd_blocks.specs.declared.access_row.AccessRow.{AccessRow}
use Rattle.dd_meaning.specs.Lists.{lists_of}
use Rattle.dd_stamps.specs.Found.{HasCollected}
use Rattle.dd_stamps.proofs.collecting.gather_all.Given as goal

abbrev pub invariant-loop-k : goal.invariant-loop-k
invariant-loop-k l = record {
  count : length l.bufs ≡ length l.initial.bufs;
  done : (k : ℕ) (d : AccessRow) → k < l.k → HasCollected l.copy.plan.now l.copy.block l.copy.values.items (get_or l.accesses k d) (get_or (lists_of l.initial.bufs) k []) (get_or (lists_of l.bufs) k []);
  left : (k : ℕ) → l.k ≤ k → get_or (lists_of l.bufs) k [] ≡ get_or (lists_of l.initial.bufs) k [];
}
