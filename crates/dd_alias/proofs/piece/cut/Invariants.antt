-- The pieces so far are the extents so far.
use Rattle.std.proofs.Common.{◌≡◌, ◌-◌, length, take}
use Rattle.dd_alias.specs.Steps.{extents_in}
use Rattle.dd_alias.proofs.piece.cut.Given as goal

abbrev pub invariant-loop-first : goal.invariant-loop-first
invariant-loop-first l = extents_in l.pieces.items ≡ take l.first l.extents

abbrev pub decreases-loop-first : goal.decreases-loop-first
decreases-loop-first l = length l.extents - l.first
