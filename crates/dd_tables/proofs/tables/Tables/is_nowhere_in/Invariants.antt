use Rattle.std.proofs.Common.{◌≡◌, ◌≤◌, ℕ, false}
use Rattle.dd_copies.specs.CopyTables.{copies_of}
use Rattle.dd_machine.specs.Tests.{is_any, is_in_state}
use Rattle.dd_machine.specs.Words.{IsOneOf, spaces}
use Rattle.dd_tables.proofs.tables.Tables.is_nowhere_in.Given as goal

abbrev pub invariant-loop-i : goal.invariant-loop-i
invariant-loop-i l = (s : ℕ) → IsOneOf (spaces l.plan) s → s ≤ l.i → is_in_state is_any (copies_of l.self.copies s l.block) ≡ false
