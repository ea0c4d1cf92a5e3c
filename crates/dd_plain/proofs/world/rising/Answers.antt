use Rattle.std.proofs.Common.{◌+◌, pos, ◌∙◌, arith}
use Rattle.std.proofs.lemmas.Int.{ints}
use Rattle.dd_meaning.proofs.FillLemmas.{one_more}
use Rattle.dd_plain.proofs.world.rising.Goals as goal

pub loop-p-preserved : goal.loop-p-preserved
loop-p-preserved c = c.in_ok-push.ensures.items ∙ one_more (λ p. pos (p + 1)) c.loop-p.p _ _ c.loop-p.invariant (omega (arith, ints))
