-- The values that were read are the first ones of the slot.
use Rattle.std.proofs.Common.{◌≡◌, ◌-◌, ◌≤◌, ℤ, List, true, take, vec_len}
use Rattle.std.specs.Int.{w64}
use Rattle.std.specs.Int.RustNames.{FitsSigned}
use Rattle.std.specs.List.{All}
use Rattle.dd_store.specs.Encoded.{encoded}
use Rattle.dd_store.proofs.values.read_values.Given as goal

abbrev pub invariant-loop-bytes : goal.invariant-loop-bytes
invariant-loop-bytes g l = record {
  fewer : vec_len l.values ≤ l.count;
  values : g.S.Slot.tells ≡ true → (xs : List ℤ) → g.S.Slot.content l.slot ≡ encoded xs → All (FitsSigned w64) xs → l.values.items ≡ take (vec_len l.values) xs;
  content : g.S.Slot.content l.slot ≡ g.S.Slot.content l.initial.slot;
  faults : g.S.Slot.faults l.slot ≡ g.S.Slot.faults l.initial.slot;
}

abbrev pub decreases-loop-bytes : goal.decreases-loop-bytes
decreases-loop-bytes g l = l.count - vec_len l.values
