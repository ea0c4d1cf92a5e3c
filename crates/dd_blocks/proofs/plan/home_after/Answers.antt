use Rattle.dd_blocks.proofs.HomesLemmas.{home_more}
use Rattle.dd_blocks.proofs.plan.home_after.Goals as goal

pub loop-row-preserved : goal.loop-row-preserved
loop-row-preserved c =
    let more = home_more c.args.array c.args.before c.args.rows.now c.loop-row.row-index c.row-item.result c.loop-row-test.true in
    cc (more, c.unwrap_or-home.ensures, c.moves.ensures, c.row-item.is, c.loop-row.invariant)
