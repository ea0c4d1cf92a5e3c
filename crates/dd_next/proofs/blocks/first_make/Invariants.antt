use Rattle.std.proofs.Common.{drop}
use Rattle.dd_next.specs.Candidates.{makes}
use Rattle.dd_next.proofs.LeftLemmas.{IsLeft}
use Rattle.dd_tables.specs.Tables.{state_of}
use Rattle.dd_next.proofs.blocks.first_make.Given as goal

abbrev pub invariant-loop-block : goal.invariant-loop-block
invariant-loop-block l = IsLeft l.plan (state_of l.plan l.tables) (makes l.task (drop l.block-index l.blocks)) (makes l.task l.blocks)
