use Rattle.std.proofs.Common.{drop}
use Rattle.dd_next.specs.Candidates.{calls}
use Rattle.dd_next.proofs.LeftLemmas.{IsLeft}
use Rattle.dd_tables.specs.Tables.{state_of}
use Rattle.dd_next.proofs.blocks.first_call.Given as goal

abbrev pub invariant-loop-block : goal.invariant-loop-block
invariant-loop-block l = IsLeft l.plan (state_of l.plan l.tables) (calls l.space (drop l.block-index l.blocks)) (calls l.space l.blocks)
