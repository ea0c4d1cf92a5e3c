use Rattle.dd_transfers.specs.declared.mark.Visit.TheVariants.{Read}
use Rattle.dd_transfers.proofs.ColumnsLemmas.{IsPassed}
use Rattle.dd_transfers.proofs.mark.read_marks.Given as goal

abbrev pub invariant-loop-mark : goal.invariant-loop-mark
invariant-loop-mark l = IsPassed (Read l.space) l.home l.mark-index l.fn.marks l.marks l.moved
