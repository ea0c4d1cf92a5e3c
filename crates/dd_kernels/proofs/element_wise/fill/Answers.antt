use Rattle.std.proofs.Common.{◌∙◌, rules}
use Rattle.dd_kernels.proofs.BlocksLemmas.{map_to_one}
use Rattle.dd_kernels.proofs.element_wise.fill.Goals as goal

pub returns : goal.returns
returns c = c.update.ensures (λ _. c.args.k) (λ x z fits answer. search rules) ∙ map_to_one c.args.k c.args.x.now
