use Rattle.std.proofs.Common.{◌∙◌, ap}
use Rattle.dd_meaning.specs.Worlds.{filled_at}
use Rattle.dd_blocks.specs.Grids.{pos_of}
use Rattle.dd_meaning.proofs.FillLemmas.{one_more}
use Rattle.dd_stamps.proofs.fill.filled_block.Goals as goal

pub loop-place-preserved : goal.loop-place-preserved
loop-place-preserved c =
    c.in_ok-put_filled.ensures
    ∙ one_more (λ place. filled_at c.args.array.now.fill (pos_of c.args.array.now.grid c.args.block place)) c.loop-place.place c.loop-place.values.items _ c.loop-place.invariant
    (ap (filled_at c.args.array.now.fill) c.pos_of.ensures.value)
