use Rattle.std.proofs.Common.{arith}
use Rattle.dd_views.proofs.TriangleLemmas.{triangle_lt}
use Rattle.dd_views.proofs.triangle.corner_from_end.Goals as goal

pub returns-clause-col : goal.returns-clause-col
returns-clause-col c = triangle_lt _ _ (omega arith)
