use Rattle.std.proofs.Common.{◌≡◌, drop}
use Rattle.std.specs.List.{list_any}
use Rattle.dd_tables.specs.Shares.{is_user}
use Rattle.dd_tables.proofs.tables.Tables.is_used.Given as goal

abbrev pub invariant-loop-i : goal.invariant-loop-i
invariant-loop-i l = list_any (is_user l.plan l.space l.block) (drop l.i l.self.at_work.items) ≡ list_any (is_user l.plan l.space l.block) l.self.at_work.items
