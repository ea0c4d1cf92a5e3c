use Rattle.std.proofs.Common.{◌-ℤ◌, ◌*ℤ◌, rules}
use Rattle.std.specs.Int.{w64}
use Rattle.std.proofs.lemmas.Int.{wraps, wrapping_sub-bits}
use Rattle.dd_kernels.specs.Lists.{wrapped}
use Rattle.dd_packed.proofs.solution.subtract.Goals as goal

pub returns : goal.returns
returns c = c.combine.ensures (λ a b. wrapped (a -ℤ c.args.k *ℤ b)) (λ u v z fits_u fits_v answer. search (rules, wraps, wrapping_sub-bits w64))
