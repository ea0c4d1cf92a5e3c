-- The numbers so far are the old ones and those found in the pieces before the place.
use Rattle.std.proofs.Common.{◌-◌, List, ℕ, length}
use Rattle.std.specs.List.{Any}
use Rattle.dd_alias.specs.declared.extent.Extent.{Extent}
use Rattle.dd_alias.specs.Waits.{IsBeforeOne}
use Rattle.dd_alias.proofs.WaitLemmas.{AreFoundBefore}
use Rattle.dd_alias.proofs.index.Index.add_waits.Given as goal

abbrev pub invariant-loop-place : goal.invariant-loop-place
invariant-loop-place l = AreFoundBefore (λ (u : ℕ) (p : List Extent). Any (λ (e : Extent). IsBeforeOne l.own l.number u e) p) l.self-inside.pieces.items l.place l.initial.found.items l.found.items

abbrev pub decreases-loop-place : goal.decreases-loop-place
decreases-loop-place l = length l.self-inside.steps.items - l.place
