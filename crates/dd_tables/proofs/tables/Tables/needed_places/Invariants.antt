use Rattle.std.proofs.Common.{◌≡◌, ◌-◌, ◌++◌, filter}
use Rattle.std.specs.List.{range_with_len}
use Rattle.dd_machine.specs.Needed.{is_needed, needed}
use Rattle.dd_machine.specs.Words.{size}
use Rattle.dd_tables.specs.Tables.{state_of}
use Rattle.dd_tables.proofs.tables.Tables.needed_places.Given as goal

abbrev pub invariant-loop-i : goal.invariant-loop-i
invariant-loop-i l = l.places.items ++ filter (is_needed l.plan (state_of l.plan l.self) l.task l.block l.from) (range_with_len l.i (size l.plan l.block - l.i))
    ≡ needed l.plan (state_of l.plan l.self) l.task l.block l.from
