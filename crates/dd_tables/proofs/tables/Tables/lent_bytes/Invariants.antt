use Rattle.std.proofs.Common.{◌≡◌, ◌*◌, ◌^◌, ◌≤◌}
use Rattle.dd_copies.specs.CopyTables.{copies_of}
use Rattle.dd_tables.specs.Tables.{state_of}
use Rattle.dd_machine.specs.Bytes.{is_lent_into, when}
use Rattle.dd_machine.specs.Tests.{is_in_state, is_lent}
use Rattle.dd_machine.specs.Words.{blocks, bytes, total}
use Rattle.dd_tables.proofs.tables.Tables.lent_bytes.Given as goal

abbrev pub invariant-loop-i : goal.invariant-loop-i
invariant-loop-i l = (l.sum ≤ l.i * 2 ^ 47) × (l.sum ≡ total l.i (λ s. total (blocks l.plan) (λ b. when (is_in_state (is_lent (is_lent_into l.plan (state_of l.plan l.self) l.space)) (copies_of l.self.copies s b)) (bytes l.plan b))))
