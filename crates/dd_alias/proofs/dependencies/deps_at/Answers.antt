use Rattle.std.proofs.Common.{◌≡◌, ◌+◌, List, length, drop, take, ⊎_elim, subst, sym, ap, ◌∙◌, arith}
use Rattle.std.proofs.lemmas.List.Elements.{All-same}
use Rattle.dd_blocks.specs.declared.access_row.AccessRow.{AccessRow}
use Rattle.dd_alias.specs.declared.extent.Extent.{Extent}
use Rattle.dd_alias.specs.Extents.{AreShown}
use Rattle.dd_alias.specs.Waits.{AreOwn, AreWaits, IsEarlier}
use Rattle.dd_alias.proofs.OwnLemmas.{accesses_at, all_earlier, dependencies_of, shown_of_tasks, shown_own, tasks_grow, views_at}
use Rattle.dd_alias.proofs.dependencies.deps_at.Goals as goal

pub waits_of-requires-clause-earlier : goal.waits_of-requires-clause-earlier
waits_of-requires-clause-earlier c =
    let old = c.args.extents.now.items in
    let new = c.add_extents.new.extents.items in
    let size : c.len-before.result ≡ length old = omega (arith, c.len-before.ensures) in
    let front : c.split_at.result.0.now ≡ old = c.split_at.ensures.front ∙ ap (λ (xs : List Extent). take c.len-before.result xs) c.as_slice-2.ensures.value ∙ ap (λ n. take n new) size ∙ c.in_ok-add_extents.ensures.before in
    All-same (IsEarlier (c.args.place + 1)) c.split_at.result.0.now old front (all_earlier c.args.tasks.now c.args.place old c.requires.extents)

pub waits_of-requires-clause-shapes : goal.waits_of-requires-clause-shapes
waits_of-requires-clause-shapes c =
    let tasks = c.args.tasks.now in
    let old = c.args.extents.now.items in
    let new = c.add_extents.new.extents.items in
    let shapes = c.requires.shapes in
    let size : c.len-before.result ≡ length old = omega (arith, c.len-before.ensures) in
    let front : c.split_at.result.0.now ≡ old = c.split_at.ensures.front ∙ ap (λ (xs : List Extent). take c.len-before.result xs) c.as_slice-2.ensures.value ∙ ap (λ n. take n new) size ∙ c.in_ok-add_extents.ensures.before in
    let back : c.split_at.result.1.now ≡ drop (length old) new = c.split_at.ensures.back ∙ ap (λ (xs : List Extent). drop c.len-before.result xs) c.as_slice-2.ensures.value ∙ ap (λ n. drop n new) size in
    let views = views_at shapes.0 tasks c.args.place c.index-tasks-place.result c.as_slice.result.now shapes.1 c.requires.place c.index-tasks-place.is c.as_slice.ensures in (
      shapes.0,
      shown_of_tasks shapes.0 tasks (length tasks) c.args.index.now shapes.1 (omega arith) c.requires.index,
      subst (λ (xs : List Extent). AreShown shapes.0 xs) (sym front) (shown_of_tasks shapes.0 tasks c.args.place old shapes.1 (omega arith) c.requires.extents),
      subst (λ (xs : List Extent). AreShown shapes.0 xs) (sym back) (shown_own shapes.0 (c.args.place + 1) c.as_slice.result.now (drop (length old) new) views c.in_ok-add_extents.ensures.added),
    )

pub returns-clause-found : goal.returns-clause-found
returns-clause-found c =
    let tasks = c.args.tasks.now in
    let old = c.args.extents.now.items in
    let new = c.add_extents.new.extents.items in
    let number = c.args.place + 1 in
    let size : c.len-before.result ≡ length old = omega (arith, c.len-before.ensures) in
    let front : c.split_at.result.0.now ≡ old = c.split_at.ensures.front ∙ ap (λ (xs : List Extent). take c.len-before.result xs) c.as_slice-2.ensures.value ∙ ap (λ n. take n new) size ∙ c.in_ok-add_extents.ensures.before in
    let back : c.split_at.result.1.now ≡ drop (length old) new = c.split_at.ensures.back ∙ ap (λ (xs : List Extent). drop c.len-before.result xs) c.as_slice-2.ensures.value ∙ ap (λ n. drop n new) size in
    let is = accesses_at tasks c.args.place c.index-tasks-place.result c.as_slice.result.now c.requires.place c.index-tasks-place.is c.as_slice.ensures in
    let own = subst (λ (xs : List AccessRow). AreOwn number xs c.split_at.result.1.now) (sym is) (subst (λ (xs : List Extent). AreOwn number c.as_slice.result.now xs) (sym back) c.in_ok-add_extents.ensures.added) in
    rw c.of.ensures (⊎_elim
    (λ (among : AreWaits c.args.index.now c.split_at.result.1.now number c.in_ok-found.found.items).
    dependencies_of tasks (length tasks) number c.args.index.now c.split_at.result.1.now c.in_ok-found.found.items c.rise.new.numbers.items (omega arith) c.requires.index own among c.rise.ensures.rising c.rise.ensures.same)
    (λ (among : AreWaits c.split_at.result.0.now c.split_at.result.1.now number c.in_ok-found.found.items).
    dependencies_of tasks c.args.place number old c.split_at.result.1.now c.in_ok-found.found.items c.rise.new.numbers.items (omega arith) c.requires.extents own (subst (λ (xs : List Extent). AreWaits xs c.split_at.result.1.now number c.in_ok-found.found.items) front among) c.rise.ensures.rising c.rise.ensures.same)
    c.in_ok-found.ensures)

pub returns-clause-added : goal.returns-clause-added
returns-clause-added c =
    let tasks = c.args.tasks.now in
    let old = c.args.extents.now.items in
    let new = c.add_extents.new.extents.items in
    let is = accesses_at tasks c.args.place c.index-tasks-place.result c.as_slice.result.now c.requires.place c.index-tasks-place.is c.as_slice.ensures in
    tasks_grow tasks c.args.place (length old) old new c.in_ok-add_extents.ensures.before c.requires.extents (subst (λ (xs : List AccessRow). AreOwn (c.args.place + 1) xs (drop (length old) new)) (sym is) c.in_ok-add_extents.ensures.added)
