use Rattle.std.proofs.Common.{drop}
use Rattle.dd_next.specs.Candidates.{copies}
use Rattle.dd_next.proofs.LeftLemmas.{IsLeft}
use Rattle.dd_tables.specs.Tables.{state_of}
use Rattle.dd_next.proofs.copies.first_copy.Given as goal

abbrev pub invariant-loop-block : goal.invariant-loop-block
invariant-loop-block l = IsLeft l.plan (state_of l.plan l.tables) (copies l.plan (state_of l.plan l.tables) l.task (drop l.block-index l.found)) (copies l.plan (state_of l.plan l.tables) l.task l.found)
