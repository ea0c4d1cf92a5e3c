use Rattle.std.proofs.Common.{◌≡◌}
use Rattle.dd_table.specs.Tables.{state_now}
use Rattle.dd_table.proofs.RunsLemmas.{runs_to}
use Rattle.dd_table.proofs.table.Table.running.Given as goal

abbrev pub invariant-loop-i : goal.invariant-loop-i
invariant-loop-i g l = l.running ≡ runs_to (state_now l.self) l.i
