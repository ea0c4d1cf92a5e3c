use Rattle.std.proofs.Common.{pos, w64}
use Rattle.std.proofs.lemmas.Int.{to_z-of_z}
use Rattle.dd_apply.proofs.AppliedLemmas.{applied_over, applied_stays}
use Rattle.dd_apply.proofs.run.apply.Goals as goal

pub returns-then-is_plain-clause-overwritten : goal.returns-then-is_plain-clause-overwritten
returns-then-is_plain-clause-overwritten c = λ others agree.
    applied_over c.args.k _ c.args.args.now.shapes.items _ _ others c.requires.fit (rw (to_z-of_z w64 c.args.scalar c.ranges.scalar) at c.plain.ensures.results) agree

pub returns-else-is_plain-clause-stays : goal.returns-else-is_plain-clause-stays
returns-else-is_plain-clause-stays c =
    applied_stays c.args.k (pos 0) c.args.args.now.shapes.items _ _ c.requires.fit c.requires.filled (c.packed.ensures.results (pos 0))

pub returns-else-is_plain-clause-overwritten : goal.returns-else-is_plain-clause-overwritten
returns-else-is_plain-clause-overwritten c = λ others agree.
    applied_over c.args.k _ c.args.args.now.shapes.items _ _ others c.requires.fit (c.packed.ensures.results _) agree
