use Rattle.std.proofs.Common.{◌≡◌, ◌-◌}
use Rattle.std.specs.List.{list_all, range_with_len}
use Rattle.dd_tables.specs.Tables.{state_of}
use Rattle.dd_machine.specs.Needed.{is_current, is_current_at}
use Rattle.dd_machine.specs.Words.{size}
use Rattle.dd_tables.proofs.tables.Tables.is_current.Given as goal

abbrev pub invariant-loop-i : goal.invariant-loop-i
invariant-loop-i l = list_all (is_current_at l.plan (state_of l.plan l.self) l.space l.block) (range_with_len l.i (size l.plan l.block - l.i))
    ≡ is_current l.plan (state_of l.plan l.self) l.space l.block
