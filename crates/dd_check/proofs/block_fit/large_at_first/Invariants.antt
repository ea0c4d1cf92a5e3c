use Rattle.std.proofs.Common.{◌≡◌, ℕ, ◌<◌, false}
use Rattle.dd_check.specs.Kinds.{is_too_large}
use Rattle.dd_check.proofs.BlockFitLemmas.{first_block_row}
use Rattle.dd_check.proofs.block_fit.large_at_first.Given as goal

abbrev pub invariant-loop-block : goal.invariant-loop-block
invariant-loop-block l = (k : ℕ) → k < l.block → is_too_large l.draft.plan (first_block_row l.draft.plan l.grid k) ≡ false
