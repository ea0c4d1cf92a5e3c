use Rattle.std.proofs.Common.{refl}
use Rattle.std.proofs.lemmas.Slice.Zip.{Zip-more, either_empty_from_Zip}
use Rattle.dd_check.proofs.GroupLemmas.{untrue}
use Rattle.dd_check.proofs.ModesLemmas.{left_more, left_none, left_stop}
use Rattle.dd_check.proofs.arguments.has_right_modes.Goals as goal

pub returns-then-not-may_be : goal.returns-then-not-may_be
returns-then-not-may_be c =
    let next = Zip-more c.loop-wanted.wanted-iterator c.next.new.self c.next.result _ c.in-Some.is c.next.ensures.steps in
    left_stop _ _ _ _ _ _ next.0 next.1 (untrue c.if-not-may_be.ensures) c.loop-wanted.invariant

pub loop-wanted-preserved : goal.loop-wanted-preserved
loop-wanted-preserved c =
    let next = Zip-more c.loop-wanted.wanted-iterator c.next.new.self c.next.result _ c.in-Some.is c.next.ensures.steps in
    left_more _ _ _ _ _ _ next.0 next.1 (c.if-not-may_be.ensures.0 refl) c.loop-wanted.invariant

pub returns : goal.returns
returns c = left_none _ _ (either_empty_from_Zip c.loop-wanted.wanted-iterator c.next.new.self c.next.result c.in-None.is c.next.ensures.steps) c.loop-wanted.invariant
