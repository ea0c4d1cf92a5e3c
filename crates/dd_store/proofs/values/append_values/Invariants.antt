-- What was appended, and what is left, make the bytes of all values.
use Rattle.std.proofs.Common.{◌≡◌, ◌++◌, true, length}
use Rattle.std.specs.Int.{w64}
use Rattle.std.specs.Int.RustNames.{FitsSigned}
use Rattle.std.specs.List.{All}
use Rattle.dd_store.specs.Encoded.{encoded}
use Rattle.dd_store.proofs.values.append_values.Given as goal

abbrev pub invariant-loop-left : goal.invariant-loop-left
invariant-loop-left g l = record {
  added : g.S.Slot.tells ≡ true → g.S.Slot.content l.slot ++ encoded l.left ≡ g.S.Slot.content l.initial.slot ++ encoded l.values;
  fit : All (FitsSigned w64) l.left → All (FitsSigned w64) l.values;
  faults : g.S.Slot.faults l.slot ≡ g.S.Slot.faults l.initial.slot;
}

abbrev pub decreases-loop-left : goal.decreases-loop-left
decreases-loop-left g l = length l.left
