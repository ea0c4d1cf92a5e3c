use Rattle.std.proofs.Common.{ℤ, [], ◌∷◌, ap, ◌∙◌, rules}
use Rattle.std.specs.Int.{w64}
use Rattle.std.proofs.lemmas.Int.{to_z-of_z}
use Rattle.dd_kernels.proofs.ListsLemmas.{one_element}
use Rattle.dd_kernels.proofs.total.sum.Goals as goal

pub returns : goal.returns
returns c =
    one_element c.args.x.now _ c.requires ∙ ap (λ (z : ℤ). z ∷ []) (to_z-of_z w64 c.sum_of.result (search rules) ∙ c.sum_of.ensures)
