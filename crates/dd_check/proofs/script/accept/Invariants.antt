use Rattle.std.proofs.Common.{◌+◌, ◌≤◌, length}
use Rattle.dd_check.specs.Drafts.{Counts, above_of}
use Rattle.dd_check.specs.Sound.{IsSound}
use Rattle.dd_check.proofs.ReachingLemmas.{Reaches}
use Rattle.dd_check.proofs.script.accept.Given as goal

abbrev pub invariant-loop-rest : goal.invariant-loop-rest
invariant-loop-rest l =
    Reaches l.text (l.above + 1) (above_of l.draft) l.rest × IsSound l.above (above_of l.draft) × Counts l.draft × (l.above + length l.rest ≤ length l.text)

abbrev pub decreases-loop-rest : goal.decreases-loop-rest
decreases-loop-rest l = length l.rest
