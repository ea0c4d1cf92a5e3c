use Rattle.std.proofs.Common.{pos, ◌∙◌, rules}
use Rattle.std.specs.Int.{w64}
use Rattle.std.specs.Int.RustNames.{FitsSigned}
use Rattle.std.proofs.lemmas.Int.{to_z-of_z}
use Rattle.dd_meaning.specs.Worlds.{lcg}
use Rattle.dd_meaning.proofs.FillLemmas.{one_more}
use Rattle.dd_plain.proofs.world.scattered.Goals as goal

pub loop-p-preserved : goal.loop-p-preserved
loop-p-preserved c =
    let fits : FitsSigned w64 c.args.seed = search rules in
    let so_far = simp to_z-of_z at c.loop-p.invariant in
    let value = to_z-of_z w64 _ (search rules) ∙ (simp to_z-of_z at c.scattered_at.ensures) in
    simp to_z-of_z (c.in_ok-push.ensures.items ∙ one_more (λ p. pos (lcg c.args.seed p)) c.loop-p.p _ _ so_far value)
