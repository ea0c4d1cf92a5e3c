use Rattle.std.proofs.Common.{pos, rules, arith}
use Rattle.std.proofs.lemmas.Int.{to_z-of_z}
use Rattle.dd_kernels.proofs.ListsLemmas.{map_more_set}
use Rattle.dd_kernels.proofs.in_place.update_each.Goals as goal

pub loop-a-preserved : goal.loop-a-preserved
loop-a-preserved g c =
    λ op h. map_more_set op _ _ _ _ (pos 0) (omega arith) (grind (arith, to_z-of_z, h _ _ (search rules) c.f.ensures)) (c.loop-a.invariant op h)
