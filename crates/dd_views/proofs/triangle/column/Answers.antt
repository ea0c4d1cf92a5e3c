use Rattle.dd_views.proofs.TriangleLemmas.{at_root, before_root}
use Rattle.dd_views.proofs.triangle.column.Goals as goal

pub returns-then-root-i-clause-before : goal.returns-then-root-i-clause-before
returns-then-root-i-clause-before c = (at_root _ _ c.isqrt-root.ensures.square_le c.isqrt-root.ensures.next_square_gt c.if-root-i.true).0

pub returns-then-root-i-clause-behind : goal.returns-then-root-i-clause-behind
returns-then-root-i-clause-behind c = (at_root _ _ c.isqrt-root.ensures.square_le c.isqrt-root.ensures.next_square_gt c.if-root-i.true).1

pub returns-else-root-i-clause-before : goal.returns-else-root-i-clause-before
returns-else-root-i-clause-before c = (before_root _ _ c.isqrt-root.ensures.square_le c.if-root-i.false).0

pub returns-else-root-i-clause-behind : goal.returns-else-root-i-clause-behind
returns-else-root-i-clause-behind c = (before_root _ _ c.isqrt-root.ensures.square_le c.if-root-i.false).1
