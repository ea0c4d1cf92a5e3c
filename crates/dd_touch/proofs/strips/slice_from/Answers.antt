use Rattle.dd_touch.proofs.StripLemmas.{StandsAt, slice_is}
use Rattle.dd_touch.proofs.strips.slice_from.Goals as goal

pub returns : goal.returns
returns c =
    let at : StandsAt c.args.span.now c.args.size c.index_at-index.result c.args.place = record {
      span = c.requires.span;
      some = c.requires.some;
      low = c.requires.low;
      high = c.requires.high;
      number = c.index_at-index.ensures.number;
    } in
    let up = rw c.from-size.ensures at c.room.ensures.up in
    let down = rw c.from-size.ensures at c.room.ensures.down in
    rw (c.from-size.ensures, c.min.ensures, c.from.ensures) (slice_is c.args.span.now c.args.size c.index_at-index.result c.args.place c.room.result c.stride.result at c.stride.ensures up down)
