use Rattle.std.proofs.Common.{rules, arith, pos, ◌+ℤ◌}
use Rattle.std.specs.Int.{w64, cast_signed, cast_unsigned}
use Rattle.dd_kernels.specs.Lists.{wrapped}
use Rattle.dd_kernels.proofs.ListsLemmas.{tabulate_more}
use Rattle.dd_kernels.proofs.NumbersLemmas.{counted_on}
use Rattle.dd_kernels.proofs.element_wise.count_on.Goals as goal

pub loop-i-preserved : goal.loop-i-preserved
loop-i-preserved c =
    tabulate_more (λ i. wrapped (cast_signed w64 (cast_unsigned w64 c.args.k) +ℤ pos i)) c.loop-i.x c.loop-i.i _ (omega arith) (counted_on (cast_unsigned w64 c.args.k) c.loop-i.i (search rules) (search rules)) c.loop-i.invariant
