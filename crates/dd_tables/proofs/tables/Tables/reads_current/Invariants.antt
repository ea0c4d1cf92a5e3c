use Rattle.std.proofs.Common.{◌≡◌, ◌-◌}
use Rattle.std.specs.List.{list_all, range_with_len}
use Rattle.dd_machine.specs.Needed.{is_read_current, reads_current}
use Rattle.dd_machine.specs.Words.{size}
use Rattle.dd_tables.specs.Tables.{state_of}
use Rattle.dd_tables.proofs.tables.Tables.reads_current.Given as goal

abbrev pub invariant-loop-i : goal.invariant-loop-i
invariant-loop-i l = list_all (is_read_current l.plan (state_of l.plan l.self) l.task l.block) (range_with_len l.i (size l.plan l.block - l.i)) ≡ reads_current l.plan (state_of l.plan l.self) l.task l.block
