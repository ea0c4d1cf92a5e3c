use Rattle.std.proofs.Common.{◌≡◌, ◌*◌, ◌^◌, ◌≤◌}
use Rattle.dd_copies.specs.CopyTables.{copies_of}
use Rattle.dd_machine.specs.Bytes.{when}
use Rattle.dd_machine.specs.Tests.{is_held, is_in_state}
use Rattle.dd_machine.specs.Words.{bytes, total}
use Rattle.dd_tables.proofs.tables.Tables.copy_bytes.Given as goal

abbrev pub invariant-loop-i : goal.invariant-loop-i
invariant-loop-i l = (l.sum ≤ l.i * 2 ^ 35) × (l.sum ≡ total l.i (λ b. when (is_in_state is_held (copies_of l.self.copies l.space b)) (bytes l.plan b)))
