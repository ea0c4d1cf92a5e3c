-- The extent clashes with none before the place.
use Rattle.std.proofs.Common.{ℕ, ◌<◌, get_or}
use Rattle.dd_alias.specs.declared.extent.Extent.{Extent}
use Rattle.dd_alias.specs.Clashes.{Clash}
use Rattle.dd_alias.proofs.extent.Extent.clashes_with_one.Given as goal

abbrev pub invariant-loop-other : goal.invariant-loop-other
invariant-loop-other l = (k : ℕ) (d : Extent) → k < l.other-index → ¬ Clash l.self.access.now (get_or l.others k d).access.now
