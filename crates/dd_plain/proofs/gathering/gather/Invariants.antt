use Rattle.std.proofs.Common.{◌≡◌, ◌++◌, map}
use Rattle.dd_kernels.specs.Lists.{element}
use Rattle.dd_views.specs.IndexList.{columns_before}
use Rattle.dd_plain.proofs.gathering.gather.Given as goal

abbrev pub invariant-loop-j : goal.invariant-loop-j
invariant-loop-j l = l.buf.items ≡ l.initial.buf.items ++ map (element l.values) (columns_before l.view l.j)
