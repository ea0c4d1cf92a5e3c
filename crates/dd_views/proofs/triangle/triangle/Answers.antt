use Rattle.std.proofs.Common.{arith}
use Rattle.dd_views.proofs.TriangleLemmas.{triangle_half, triangle_small, product_fits}
use Rattle.dd_views.proofs.triangle.triangle.Goals as goal

pub overflow_mul-result : goal.overflow_mul-result
overflow_mul-result c = omega (arith, product_fits _ c.requires)

pub returns-clause-value : goal.returns-clause-value
returns-clause-value c = triangle_half _

pub returns-clause-bound : goal.returns-clause-bound
returns-clause-bound c = rw (triangle_half _) (triangle_small _ c.requires)
