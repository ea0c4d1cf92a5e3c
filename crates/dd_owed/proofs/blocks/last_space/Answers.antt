use Rattle.dd_owed.proofs.HomesLemmas.{last_more}
use Rattle.dd_owed.proofs.blocks.last_space.Goals as goal

pub loop-row-preserved : goal.loop-row-preserved
loop-row-preserved c =
    let more = last_more c.args.array c.args.rows.now c.loop-row.row-index c.row-item.result c.loop-row-test.true in
    cc (more, c.or-space.ensures, c.moves.ensures, c.row-item.is, c.loop-row.invariant)
