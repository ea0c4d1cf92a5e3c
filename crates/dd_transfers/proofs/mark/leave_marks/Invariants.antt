use Rattle.dd_transfers.specs.declared.mark.Visit.TheVariants.{Leave}
use Rattle.dd_transfers.proofs.ColumnsLemmas.{IsPassed}
use Rattle.dd_transfers.proofs.mark.leave_marks.Given as goal

abbrev pub invariant-loop-mark : goal.invariant-loop-mark
invariant-loop-mark l = IsPassed Leave l.home l.mark-index l.fn.marks l.marks l.moved
