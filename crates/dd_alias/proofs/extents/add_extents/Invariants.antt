-- What was added is the extents of the accesses so far.
use Rattle.dd_alias.proofs.OwnLemmas.{AreAdded}
use Rattle.dd_alias.proofs.extents.add_extents.Given as goal

abbrev pub invariant-loop-access : goal.invariant-loop-access
invariant-loop-access l = AreAdded l.number l.accesses l.access-index l.initial.extents.items l.extents.items
