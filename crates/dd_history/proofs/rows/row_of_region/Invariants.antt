-- No row so far runs the region.
use Rattle.std.proofs.Common.{◌≡◌, ℕ, ◌<◌, false, get_or}
use Rattle.dd_blocks.specs.declared.statement_row.StatementRow.{StatementRow}
use Rattle.dd_blocks.specs.Homes.{runs_region}
use Rattle.dd_history.proofs.rows.row_of_region.Given as goal

abbrev pub invariant-loop-i : goal.invariant-loop-i
invariant-loop-i l = (k : ℕ) (d : StatementRow) → k < l.i → runs_region l.region (get_or l.plan.statements k d).what ≡ false
