use Rattle.std.proofs.Common.{◌≡◌, ◌+◌, arith}
use Rattle.dd_touch.proofs.TouchedLemmas.{adds_column, adds_touched}
use Rattle.dd_touch.proofs.touched.add_touched.Goals as goal

pub loop-place-preserved : goal.loop-place-preserved
loop-place-preserved c = record {
  low = omega (arith, c.loop-place.invariant.low, c.slice_from-col.ensures.some);
  high = c.slice_from-col.ensures.last;
  added = adds_column c.args.array.now c.args.view.now c.loop-place.place c.slice_from-col.result.strip c.slice_from-col.result.end c.kept_in-rows.result.low c.kept_in-rows.result.high c.args.blocks.now.items c.loop-place.blocks.items c.add_in_column.new.blocks.items
      c.loop-place.invariant.low c.slice_from-col.ensures c.kept_in-rows.ensures c.loop-place.invariant.added c.in_ok-add_in_column.ensures;
}

pub returns : goal.returns
returns c =
    let last : c.loop-place.place ≡ c.args.view.now.cols.count + 1 = omega (arith, c.from-end.ensures, c.loop-place.invariant.high, c.loop-place-test.false) in
    adds_touched c.args.array.now c.args.view.now c.loop-place.place c.args.blocks.now.items c.loop-place.blocks.items c.requires.view last c.loop-place.invariant.added
