-- The blocks of the rows so far were added. The last one of them may have more rows.
use Rattle.std.proofs.Common.{◌-◌, ◌≤◌, min}
use Rattle.dd_touch.specs.Touching.{Adds, Between, IsBlockAt}
use Rattle.dd_touch.proofs.touched.add_in_column.Given as goal

abbrev pub invariant-loop-place : goal.invariant-loop-place
invariant-loop-place l = record {
  low : l.fn.rows.low ≤ l.place;
  added : Adds (Between (IsBlockAt l.array l.span l.col) l.fn.rows.low (min l.place l.fn.rows.high)) l.initial.blocks.items l.blocks.items;
}

abbrev pub decreases-loop-place : goal.decreases-loop-place
decreases-loop-place l = l.fn.rows.high - l.place
