use Rattle.std.specs.Iterator.Adapters.{zip_first, zip_second}
use Rattle.std.specs.Slice.Iter.{iter_rest}
use Rattle.dd_kernels.specs.Signatures.{modes_of}
use Rattle.dd_check.proofs.ModesLemmas.{AllMayBe, IsLeft}
use Rattle.dd_check.proofs.arguments.has_right_modes.Given as goal

abbrev pub invariant-loop-wanted : goal.invariant-loop-wanted
invariant-loop-wanted l =
    IsLeft (iter_rest (zip_first l.wanted-iterator)) (iter_rest (zip_second l.wanted-iterator)) (AllMayBe (modes_of l.fn.k) l.pieces)
