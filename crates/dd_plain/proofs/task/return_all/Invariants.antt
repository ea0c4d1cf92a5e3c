use Rattle.std.proofs.Common.{drop}
use Rattle.dd_plain.specs.Lending.{all_back_in, is_lent}
use Rattle.dd_plain.specs.Lists.{lists_of}
use Rattle.dd_plain.proofs.AccessLemmas.{IsReturning}
use Rattle.dd_plain.proofs.task.return_all.Given as goal

abbrev pub invariant-loop-i : goal.invariant-loop-i
invariant-loop-i l =
    IsReturning l.arrays (is_lent l.accesses) (lists_of l.world) (all_back_in (is_lent l.accesses) (lists_of l.initial.world) l.accesses (lists_of l.initial.bufs)) (drop l.i l.accesses) (drop l.i (lists_of l.bufs))
