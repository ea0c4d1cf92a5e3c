use Rattle.std.proofs.Common.{◌+ℤ◌, ◌*ℤ◌, rules}
use Rattle.dd_kernels.specs.Lists.{wrapped}
use Rattle.std.proofs.lemmas.Int.{wraps, wrapping_add-bits}
use Rattle.std.specs.Int.{w64}
use Rattle.dd_kernels.proofs.element_wise.axpy.Goals as goal

pub returns : goal.returns
returns c = c.combine.ensures (λ a b. wrapped (a +ℤ c.args.k *ℤ b)) (λ x y z fits_x fits_y answer. search (rules, wraps, wrapping_add-bits w64))
