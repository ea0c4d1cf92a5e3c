-- One space more has no copy of the block, or is its home.
use Rattle.dd_back.proofs.FreeingLemmas.{one_next}
use Rattle.dd_back.proofs.others.free_others_of.Goals as goal

pub loop-i-preserved : goal.loop-i-preserved
loop-i-preserved g c = one_next c.args.table.now c.loop-i.table c.free_away.new.table c.args.block c.loop-i.i c.requires.at_end c.loop-i.invariant c.free_away.ensures
