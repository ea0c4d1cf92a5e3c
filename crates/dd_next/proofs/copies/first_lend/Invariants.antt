use Rattle.std.proofs.Common.{drop}
use Rattle.dd_next.specs.Candidates.{lends}
use Rattle.dd_next.proofs.LeftLemmas.{IsLeft}
use Rattle.dd_tables.specs.Tables.{state_of}
use Rattle.dd_next.proofs.copies.first_lend.Given as goal

abbrev pub invariant-loop-block : goal.invariant-loop-block
invariant-loop-block l = IsLeft l.plan (state_of l.plan l.tables) (lends l.plan l.task (drop l.block-index l.found)) (lends l.plan l.task l.found)
