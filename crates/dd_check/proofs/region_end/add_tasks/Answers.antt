use Rattle.std.proofs.Common.{ℕ, ◌+◌, ◌<◌, List, length, get_or, map, arith, sym, ap, ◌∙◌}
use Rattle.std.proofs.lemmas.Iterator.Adapters.{YieldsList-from_vec}
use Rattle.std.proofs.lemmas.Iterator.Consumers.{YieldsList-turn, YieldsList-end}
use Rattle.std.proofs.lemmas.List.{length_push}
use Rattle.dd_check.proofs.RegionEndLemmas.{found_all, found_more}
use Rattle.dd_check.proofs.region_end.add_tasks.Goals as goal

pub bounds-found-place : goal.bounds-found-place
bounds-found-place c =
    let turn = YieldsList-turn (YieldsList-from_vec {s = c.into_iter-task-iterator.result} c.args.region.items (cc) (cc)) c.loop-task.yielded _ c.loop-task.yielded_by _ c.next.new.self c.in-Some.task c.in-Some.is c.next.ensures.steps in
    omega (arith, turn.0, c.loop-task.invariant.0, c.requires.each)

pub numbers-requires : goal.numbers-requires
numbers-requires c =
    let turn = YieldsList-turn (YieldsList-from_vec {s = c.into_iter-task-iterator.result} c.args.region.items (cc) (cc)) c.loop-task.yielded _ c.loop-task.yielded_by _ c.next.new.self c.in-Some.task c.in-Some.is c.next.ensures.steps in
    let few : c.loop-task.place < length c.args.found.now = omega (arith, turn.0, c.loop-task.invariant.0, c.requires.each) in
    rw (c.as_slice.ensures, c.index-found-place.is) (c.requires.fits c.loop-task.place c.index-found-place.result few)

pub loop-task-preserved : goal.loop-task-preserved
loop-task-preserved c =
    let turn = YieldsList-turn (YieldsList-from_vec {s = c.into_iter-task-iterator.result} c.args.region.items (cc) (cc)) c.loop-task.yielded _ c.loop-task.yielded_by _ c.next.new.self c.in-Some.task c.in-Some.is c.next.ensures.steps in
    let place = c.loop-task.invariant.0 in
    let i = c.loop-task.place in
    let low : i < length c.args.region.items = omega (arith, turn.0, place) in
    let few : i < length c.args.found.now = omega (arith, low, c.requires.each) in
    let task = turn.1 ∙ ap (λ (k : ℕ). get_or c.args.region.items k c.in-Some.task) (sym place) in
    let deps = c.in_ok-task.ensures ∙ ap (λ (l : List ℕ). map (λ (n : ℕ). c.args.before + n) l) c.as_slice.ensures in (
      omega (arith, place, length_push c.loop-task.yielded c.in-Some.task),
      found_more c.args.before c.args.region.items c.args.found.now i c.in-Some.task c.index-found-place.result c.in_ok-task.field-0 c.loop-task.tasks _ c.push.new.self low few task c.index-found-place.is deps c.in_ok-push.ensures.ok c.loop-task.invariant.1,
    )

pub returns : goal.returns
returns c =
    let end = YieldsList-end (YieldsList-from_vec {s = c.into_iter-task-iterator.result} c.args.region.items (cc) (cc)) c.loop-task.yielded _ c.loop-task.yielded_by _ c.next.new.self c.in-None.is c.next.ensures.steps in
    found_all c.args.before c.args.region.items c.args.found.now c.loop-task.place c.loop-task.tasks _ (omega (arith, end.1, c.loop-task.invariant.0)) c.loop-task.invariant.1
