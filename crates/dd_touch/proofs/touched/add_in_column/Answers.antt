use Rattle.std.proofs.Common.{arith}
use Rattle.dd_touch.proofs.TouchedLemmas.{adds_slice}
use Rattle.dd_touch.proofs.touched.add_in_column.Goals as goal

pub loop-place-preserved : goal.loop-place-preserved
loop-place-preserved c = record {
  low = omega (arith, c.loop-place.invariant.low, c.slice_from-row.ensures.some);
  added = rw c.in_ok-push.ensures.items (adds_slice c.args.array.now c.args.span.now c.args.col c.args.rows.low c.loop-place.place c.args.rows.high c.slice_from-row.result.strip c.slice_from-row.result.end c.number_of_block.result c.args.blocks.now.items c.loop-place.blocks.items
      c.loop-place.invariant.low c.loop-place-test.true c.slice_from-row.ensures c.number_of_block.ensures c.loop-place.invariant.added);
}
