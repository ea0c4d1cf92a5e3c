use Rattle.std.proofs.Common.{sym}
use Rattle.std.proofs.lemmas.List.{take_all}
use Rattle.std.proofs.lemmas.List.Elements.{All-more, All-same}
use Rattle.dd_blocks.specs.OfPlan.{HasBlocks}
use Rattle.tests_of_tasks.proofs.placements.have_blocks.Goals as goal

pub loop-array-preserved : goal.loop-array-preserved
loop-array-preserved c = All-more (HasBlocks c.args.plan.now) c.as_slice-arrays.result.now c.loop-array.array-index _ c.loop-array-test.true c.loop-array.invariant (c.has_blocks.ensures c.if-not-has_blocks.false)

pub returns : goal.returns
returns c = λ yes. All-same (HasBlocks c.args.plan.now) c.args.plan.now.arrays c.as_slice-arrays.result.now (sym c.as_slice-arrays.ensures) (rw (take_all c.loop-array.array-index c.as_slice-arrays.result.now c.loop-array-test.false) at c.loop-array.invariant)
