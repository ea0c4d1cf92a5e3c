-- The elements of the accesses so far, which are few.
use Rattle.dd_touch.proofs.SmallLemmas.{AreCounted}
use Rattle.dd_touch.proofs.charge.access_elements.Given as goal

abbrev pub invariant-loop-access : goal.invariant-loop-access
invariant-loop-access l = AreCounted l.accesses l.access-index l.sum
