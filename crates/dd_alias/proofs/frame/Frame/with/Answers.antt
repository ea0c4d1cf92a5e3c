use Rattle.std.proofs.Common.{arith}
use Rattle.dd_alias.proofs.FrameLemmas.{wider_inside}
use Rattle.dd_alias.proofs.frame.Frame.with.Goals as goal

pub returns-clause-before : goal.returns-clause-before
returns-clause-before c = λ e inside.
    wider_inside _ c.args.self.now e (omega (arith, c.min.ensures)) (omega (arith, c.max.ensures)) c.joined.ensures.one c.joined-2.ensures.one inside
