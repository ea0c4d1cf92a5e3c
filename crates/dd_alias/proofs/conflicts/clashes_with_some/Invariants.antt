-- The access clashes with none before the place.
use Rattle.std.proofs.Common.{ℕ, ◌<◌, get_or}
use Rattle.dd_alias.specs.Clashes.{Clash}
use Rattle.dd_alias.proofs.AnyLemmas.{no_access}
use Rattle.dd_alias.proofs.conflicts.clashes_with_some.Given as goal

abbrev pub invariant-loop-other : goal.invariant-loop-other
invariant-loop-other l = (k : ℕ) → k < l.other-index → ¬ Clash l.access (get_or l.others k no_access)
