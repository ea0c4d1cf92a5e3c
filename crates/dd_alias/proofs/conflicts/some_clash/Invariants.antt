-- No access before the place clashes with any of the others.
use Rattle.std.proofs.Common.{ℕ, ◌<◌, get_or}
use Rattle.dd_alias.specs.Clashes.{ClashesWithSome}
use Rattle.dd_alias.proofs.AnyLemmas.{no_access}
use Rattle.dd_alias.proofs.conflicts.some_clash.Given as goal

abbrev pub invariant-loop-access : goal.invariant-loop-access
invariant-loop-access l = (k : ℕ) → k < l.access-index → ¬ ClashesWithSome (get_or l.ones k no_access) l.others
