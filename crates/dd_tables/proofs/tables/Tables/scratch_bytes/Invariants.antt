use Rattle.std.proofs.Common.{◌≡◌, ◌*◌, ◌^◌, ◌≤◌}
use Rattle.dd_tables.specs.Shares.{scratch_of, worker_at}
use Rattle.dd_tables.specs.Tables.{state_of}
use Rattle.dd_machine.specs.Words.{total}
use Rattle.dd_tables.proofs.tables.Tables.scratch_bytes.Given as goal

abbrev pub invariant-loop-i : goal.invariant-loop-i
invariant-loop-i l = (l.sum ≤ l.i * 2 ^ 40) × (l.sum ≡ total l.i (λ p. scratch_of l.plan (state_of l.plan l.self) l.space (worker_at l.self.at_work.items p)))
