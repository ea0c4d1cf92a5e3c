use Rattle.std.proofs.Common.{◌≡◌, ◌≤◌, ℕ, false}
use Rattle.dd_copies.specs.CopyTables.{copies_of}
use Rattle.dd_machine.specs.Tests.{is_in_state, is_leaving}
use Rattle.dd_machine.specs.Words.{IsOneOf, blocks, spaces}
use Rattle.dd_tables.proofs.tables.Tables.none_leaves_in.Given as goal

abbrev pub invariant-loop-i : goal.invariant-loop-i
invariant-loop-i l = (s b : ℕ) → IsOneOf (spaces l.plan) s → IsOneOf (blocks l.plan) b → s ≤ l.i → is_in_state is_leaving (copies_of l.self.copies s b) ≡ false
