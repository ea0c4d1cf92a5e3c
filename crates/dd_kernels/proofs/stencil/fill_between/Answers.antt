use Rattle.std.proofs.Common.{◌∙◌, rules, arith}
use Rattle.std.specs.Int.{w64}
use Rattle.std.specs.Int.RustNames.{FitsSigned}
use Rattle.std.proofs.lemmas.Int.{to_z-of_z}
use Rattle.dd_kernels.specs.Lists.{element}
use Rattle.dd_kernels.specs.Matrices.{weighed}
use Rattle.dd_kernels.proofs.ListsLemmas.{tabulate_more}
use Rattle.dd_kernels.proofs.stencil.fill_between.Goals as goal

pub loop-i-preserved : goal.loop-i-preserved
loop-i-preserved c =
    let i = c.loop-i.i in
    let fits_above : FitsSigned w64 (element c.args.above.now i) = search rules in
    let fits_below : FitsSigned w64 (element c.args.below.now i) = search rules in
    let fits_left : FitsSigned w64 (element c.args.left.now i) = search rules in
    let fits_right : FitsSigned w64 (element c.args.right.now i) = search rules in
    let fits_here : FitsSigned w64 (element c.args.here.now i) = search rules in
    let fits : FitsSigned w64 c.weigh.result = search rules in
    tabulate_more (λ i. weighed (element c.args.above.now i) (element c.args.below.now i) (element c.args.left.now i) (element c.args.right.now i) (element c.args.here.now i)) c.loop-i.out i _ (omega arith) (to_z-of_z w64 c.weigh.result fits ∙ simp to_z-of_z at c.weigh.ensures) c.loop-i.invariant
