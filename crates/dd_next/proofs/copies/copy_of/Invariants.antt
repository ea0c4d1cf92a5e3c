use Rattle.std.proofs.Common.{◌+◌, ◌-◌}
use Rattle.std.specs.List.{flat_map, range_with_len}
use Rattle.dd_machine.specs.Words.{spaces}
use Rattle.dd_next.specs.Candidates.{copies_of, copy_from}
use Rattle.dd_next.proofs.LeftLemmas.{IsLeft}
use Rattle.dd_tables.specs.Tables.{state_of}
use Rattle.dd_next.proofs.copies.copy_of.Given as goal

abbrev pub invariant-loop-i : goal.invariant-loop-i
invariant-loop-i l = IsLeft l.plan (state_of l.plan l.tables) (flat_map (copy_from l.plan (state_of l.plan l.tables) l.task l.block) (range_with_len (l.i + 1) (spaces l.plan - l.i))) (copies_of l.plan (state_of l.plan l.tables) l.task l.block)
