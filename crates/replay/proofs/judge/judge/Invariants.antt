-- The core is one of the Plan, no more entries were made than lines read, and no more lines than there were bytes.
use Rattle.std.proofs.Common.{◌+◌, ◌≤◌, length}
use Rattle.dd_core.specs.Cores.{IsCoreOf}
use Rattle.replay.proofs.judge.judge.Given as goal

abbrev pub invariant-loop-rest : goal.invariant-loop-rest
invariant-loop-rest l = IsCoreOf l.plan l.core × (l.entries ≤ l.line) × (l.line + length l.rest ≤ length l.journal)

abbrev pub decreases-loop-rest : goal.decreases-loop-rest
decreases-loop-rest l = length l.rest
