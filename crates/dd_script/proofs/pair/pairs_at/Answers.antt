use Rattle.std.proofs.Common.{rules, sym}
use Rattle.dd_script.proofs.ArgumentStepsLemmas.{pair_shrinks, pairs_more, pairs_stuck, pairs_end, fewer_tokens}
use Rattle.dd_script.proofs.pair.pairs_at.Goals as goal

pub returns-in_default-clause-value : goal.returns-in_default-clause-value
returns-in_default-clause-value c = pairs_stuck _ _ _ (search rules) c.in_default.ensures.value c.loop-rest.invariant.0

pub loop-rest-smaller : goal.loop-rest-smaller
loop-rest-smaller c = fewer_tokens c.args.line.now _ _ (pair_shrinks _ _ (sym c.in-Some.ensures.value))

pub loop-rest-preserved : goal.loop-rest-preserved
loop-rest-preserved c =
    (rw c.in_ok-push.ensures.ok (pairs_more _ _ _ _ _ (search rules) c.in-Some.ensures.value c.loop-rest.invariant.0), c.in-Some.ensures.rest)

pub returns-clause-value : goal.returns-clause-value
returns-clause-value c = pairs_end _ _ _ (search rules) c.loop-rest.invariant.0
