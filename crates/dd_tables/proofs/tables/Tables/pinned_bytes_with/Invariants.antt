use Rattle.std.proofs.Common.{◌≡◌, ◌*◌, ◌^◌, ◌≤◌, ◌||◌}
use Rattle.dd_tables.specs.Tables.{state_of}
use Rattle.dd_machine.specs.Bytes.{is_pinned, when}
use Rattle.dd_machine.specs.Words.{bytes, total, touches}
use Rattle.dd_tables.proofs.tables.Tables.pinned_bytes_with.Given as goal

abbrev pub invariant-loop-i : goal.invariant-loop-i
invariant-loop-i l = (l.sum ≤ l.i * 2 ^ 35) × (l.sum ≡ total l.i (λ b. when (is_pinned l.plan (state_of l.plan l.self) l.space b || touches l.plan l.task b) (bytes l.plan b)))
