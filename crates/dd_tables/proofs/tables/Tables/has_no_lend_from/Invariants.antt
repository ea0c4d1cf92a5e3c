use Rattle.std.proofs.Common.{◌≡◌, ◌≤◌, ℕ, false, nat_eq}
use Rattle.dd_copies.specs.CopyTables.{copies_of}
use Rattle.dd_machine.specs.Tests.{is_in_state, is_lent}
use Rattle.dd_machine.specs.Words.{IsOneOf, blocks}
use Rattle.dd_tables.proofs.tables.Tables.has_no_lend_from.Given as goal

abbrev pub invariant-loop-i : goal.invariant-loop-i
invariant-loop-i l = (b : ℕ) → IsOneOf (blocks l.plan) b → b ≤ l.i → is_in_state (is_lent (λ t. nat_eq t l.task)) (copies_of l.self.copies l.space b) ≡ false
