use Rattle.std.proofs.Common.{[], ◌∷◌, pos}
use Rattle.dd_apply.proofs.AppliedLemmas.{applied_over, applied_stays}
use Rattle.dd_apply.proofs.slices.apply_to_two.Goals as goal

pub returns-else-is_plain-clause-stays : goal.returns-else-is_plain-clause-stays
returns-else-is_plain-clause-stays c =
    applied_stays c.args.k (pos 0) (c.args.shapes.0 ∷ c.args.shapes.1 ∷ []) _ _ c.requires.fit (c.requires.first, (c.requires.second, tt)) (c.packed_on_two.ensures (pos 0))

pub returns-else-is_plain-clause-overwritten : goal.returns-else-is_plain-clause-overwritten
returns-else-is_plain-clause-overwritten c = λ others agree.
    applied_over c.args.k _ (c.args.shapes.0 ∷ c.args.shapes.1 ∷ []) _ _ others c.requires.fit (c.packed_on_two.ensures _) agree
