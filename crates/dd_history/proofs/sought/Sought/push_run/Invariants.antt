-- Of the places so far those are there that are lacking.
use Rattle.std.proofs.Common.{◌≡◌, ◌-◌, ◌++◌, filter}
use Rattle.std.specs.List.{range_with_len}
use Rattle.dd_history.specs.Currents.{is_lacking}
use Rattle.dd_history.proofs.sought.Sought.push_run.Given as goal

abbrev pub invariant-loop-place : goal.invariant-loop-place
invariant-loop-place l =
    l.places.items ≡ l.fn.places.items ++ filter (is_lacking l.self.plan.now l.self.region l.self.block l.self.versions.now.list l.self.held.now.list l.self.from) (range_with_len l.first (l.place - l.first))
