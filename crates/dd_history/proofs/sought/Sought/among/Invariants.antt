-- The places so far, and those to come, are all.
use Rattle.std.proofs.Common.{◌≡◌, ◌-◌, ◌^◌, ◌++◌, filter}
use Rattle.dd_history.specs.Currents.{is_lacking}
use Rattle.dd_spans.specs.Numbers.{numbers_from}
use Rattle.dd_history.proofs.sought.Sought.among.Given as goal

abbrev pub invariant-loop-first : goal.invariant-loop-first
invariant-loop-first l =
    l.places.items ++ filter (is_lacking l.self.plan.now l.self.region l.self.block l.self.versions.now.list l.self.held.now.list l.self.from) (numbers_from l.next l.wanted.list)
    ≡ filter (is_lacking l.self.plan.now l.self.region l.self.block l.self.versions.now.list l.self.held.now.list l.self.from) l.wanted.list

abbrev pub decreases-loop-first : goal.decreases-loop-first
decreases-loop-first l = 2 ^ 64 - l.next
