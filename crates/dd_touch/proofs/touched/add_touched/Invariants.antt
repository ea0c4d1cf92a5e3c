-- The blocks of the columns so far were added.
use Rattle.std.proofs.Common.{◌+◌, ◌-◌, ◌≤◌}
use Rattle.dd_touch.specs.Touching.{Adds, Between, IsTouchedIn}
use Rattle.dd_touch.proofs.touched.add_touched.Given as goal

abbrev pub invariant-loop-place : goal.invariant-loop-place
invariant-loop-place l = record {
  low : 1 ≤ l.place;
  high : l.place ≤ l.view.cols.count + 1;
  added : Adds (Between (IsTouchedIn l.array l.view) 1 l.place) l.initial.blocks.items l.blocks.items;
}

abbrev pub decreases-loop-place : goal.decreases-loop-place
decreases-loop-place l = l.view.cols.count + 1 - l.place
