use Rattle.std.proofs.Common.{pos, rules, arith}
use Rattle.std.proofs.lemmas.Int.{to_z-of_z}
use Rattle.dd_kernels.proofs.ListsLemmas.{zip_with_more}
use Rattle.dd_kernels.proofs.in_place.combine_each.Goals as goal

pub loop-i-preserved : goal.loop-i-preserved
loop-i-preserved g c =
    λ op h. zip_with_more op _ _ _ _ _ (pos 0) (omega arith) (omega arith) (grind (arith, to_z-of_z, h _ _ _ (search rules) (search rules) c.f.ensures)) (c.loop-i.invariant op h)
