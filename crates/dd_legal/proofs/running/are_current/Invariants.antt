use Rattle.std.proofs.Common.{◌≡◌, drop}
use Rattle.std.specs.List.{list_all}
use Rattle.dd_machine.specs.Needed.{reads_current}
use Rattle.dd_tables.specs.Tables.{state_of}
use Rattle.dd_legal.proofs.running.are_current.Given as goal

abbrev pub invariant-loop-block : goal.invariant-loop-block
invariant-loop-block l = list_all (reads_current l.plan (state_of l.plan l.tables) l.task) (drop l.block-index l.found) ≡ list_all (reads_current l.plan (state_of l.plan l.tables) l.task) l.found
