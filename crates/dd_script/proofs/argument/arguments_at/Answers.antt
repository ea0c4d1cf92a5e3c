use Rattle.std.proofs.Common.{rules, sym}
use Rattle.dd_script.proofs.ArgumentStepsLemmas.{argument_shrinks, arguments_more, arguments_stuck, arguments_end, fewer_tokens}
use Rattle.dd_script.proofs.argument.arguments_at.Goals as goal

pub returns-in_default : goal.returns-in_default
returns-in_default c =
    arguments_stuck _ _ _ (search rules) (rw c.in_default.is at c.in_ok-argument.ensures.value) c.loop-rest.invariant.0

pub loop-rest-smaller : goal.loop-rest-smaller
loop-rest-smaller c =
    fewer_tokens c.args.line.now _ _ (argument_shrinks _ _ (sym (rw c.in-Some.is at c.in_ok-argument.ensures.value)))

pub loop-rest-preserved : goal.loop-rest-preserved
loop-rest-preserved c =
    let found = rw c.in-Some.is at c.in_ok-argument.ensures.value in
    let inside = rw c.in-Some.is at c.in_ok-argument.ensures.rest in
    (rw c.in_ok-push.ensures.ok (arguments_more _ _ _ _ _ (search rules) found c.loop-rest.invariant.0), inside)

pub returns : goal.returns
returns c = arguments_end _ _ _ (search rules) c.loop-rest.invariant.0
