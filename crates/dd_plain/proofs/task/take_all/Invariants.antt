use Rattle.std.proofs.Common.{drop}
use Rattle.dd_plain.specs.Lending.{is_lent}
use Rattle.dd_plain.specs.Lists.{lists_of}
use Rattle.dd_plain.proofs.AccessLemmas.{IsTaking}
use Rattle.dd_plain.proofs.task.take_all.Given as goal

abbrev pub invariant-loop-access : goal.invariant-loop-access
invariant-loop-access l =
    IsTaking l.arrays (is_lent l.accesses) (lists_of l.initial.world) (lists_of l.world) l.accesses (drop l.access-index l.accesses) (lists_of l.bufs.items)
