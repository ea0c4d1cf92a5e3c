use Rattle.std.proofs.Common.{◌≡◌, ap, length, ◌∙◌, below_more, arith}
use Rattle.dd_blocks.specs.Layout.{blocks_in}
use Rattle.dd_check.proofs.BlocksLemmas.{length_blocks}
use Rattle.dd_check.proofs.BlockFitLemmas.{first_small, large_found, large_nowhere}
use Rattle.dd_check.proofs.block_fit.large_at_first.Goals as goal

pub returns-then-needed-limit : goal.returns-then-needed-limit
returns-then-needed-limit c = λ fill.
    let counted : length c.as_slice.result.now ≡ blocks_in c.args.draft.now.plan.arrays = ap length c.as_slice.ensures ∙ length_blocks _ c.requires.sound.above.layout in
    let limit = rw c.as_slice-2.ensures at c.limit_of-limit.ensures in
    large_found c.args.draft.now.plan c.args.grid.now fill c.args.line (length c.as_slice.result.now) c.loop-block.block c.needed-needed.result c.limit_of-limit.result c.large.result
    (omega (arith, c.blocks-block-end.ensures.value)) c.loop-block.invariant counted limit c.needed-needed.ensures c.if-needed-limit.true c.large.ensures

pub loop-block-preserved : goal.loop-block-preserved
loop-block-preserved c =
    let counted : length c.as_slice.result.now ≡ blocks_in c.args.draft.now.plan.arrays = ap length c.as_slice.ensures ∙ length_blocks _ c.requires.sound.above.layout in
    let limit = rw c.as_slice-2.ensures at c.limit_of-limit.ensures in
    below_more _ c.loop-block.block c.loop-block.invariant
    (first_small c.args.draft.now.plan c.args.grid.now (length c.as_slice.result.now) c.loop-block.block c.limit_of-limit.result counted limit (rw (← c.needed-needed.ensures) c.if-needed-limit.false))

pub returns : goal.returns
returns c = λ fill.
    large_nowhere c.args.draft.now.plan c.args.grid.now fill c.args.line c.loop-block.block (omega (arith, c.blocks-block-end.ensures.value)) c.loop-block.invariant
