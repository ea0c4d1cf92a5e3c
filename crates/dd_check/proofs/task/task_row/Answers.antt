use Rattle.std.proofs.Common.{◌+◌, ◌∙◌, sym, refl, arith, w64}
use Rattle.std.proofs.lemmas.Int.{to_z-of_z}
use Rattle.dd_check.proofs.TaskLemmas.{AreParts, draft_can_place, few_blocks, homes_above, of_plan, region_fits, small_accesses, task_is}
use Rattle.dd_check.proofs.task.task_row.Goals as goal

pub touched_blocks-requires-clause-arrays : goal.touched_blocks-requires-clause-arrays
touched_blocks-requires-clause-arrays c = (draft_can_place c.args.draft.now c.args.region.now c.requires.sound c.requires.opened).arrays

pub touched_blocks-requires-clause-blocks : goal.touched_blocks-requires-clause-blocks
touched_blocks-requires-clause-blocks c = (draft_can_place c.args.draft.now c.args.region.now c.requires.sound c.requires.opened).blocks

pub touched_blocks-requires-clause-accesses : goal.touched_blocks-requires-clause-accesses
touched_blocks-requires-clause-accesses c = rw c.deref.ensures.value (of_plan c.args.draft.now.plan c.args.accesses.items c.requires.accesses)

pub charge_of-charge-requires-clause-accesses : goal.charge_of-charge-requires-clause-accesses
charge_of-charge-requires-clause-accesses c =
    rw c.deref-2.ensures.value (small_accesses c.args.draft.now.plan c.args.accesses.items c.requires.sound.above.limits.elements c.requires.accesses)

pub charge_of-charge-requires-clause-few_blocks : goal.charge_of-charge-requires-clause-few_blocks
charge_of-charge-requires-clause-few_blocks c =
    rw c.deref-3.ensures.value (omega (arith, few_blocks c.args.draft.now c.requires.sound, c.in_ok-blocks.ensures.few))

pub overflow_add-row : goal.overflow_add-row
overflow_add-row c = omega (arith, region_fits c.args.draft.now c.requires.sound)

pub place_by-requires-clause-plan : goal.place_by-requires-clause-plan
place_by-requires-clause-plan c = draft_can_place c.args.draft.now c.args.region.now c.requires.sound c.requires.opened

pub place_by-requires-clause-homes : goal.place_by-requires-clause-homes
place_by-requires-clause-homes c = rw c.deref-4.ensures.value (homes_above c.args.draft.now c.requires.sound)

pub place_by-requires-clause-accesses : goal.place_by-requires-clause-accesses
place_by-requires-clause-accesses c = rw c.of.ensures (of_plan c.args.draft.now.plan c.args.accesses.items c.requires.accesses)

pub returns-clause-task : goal.returns-clause-task
returns-clause-task c = λ word given pieces named given_is shown.
    let d = c.args.draft.now in
    let accesses = c.args.accesses.items in
    let blocks = c.in_ok-blocks.blocks.items in
    let same = to_z-of_z w64 c.args.scalar c.ranges.scalar in
    let parts : AreParts d c.args.region.now.procs.items c.args.line (d.regions + 1) c.args.kernel c.args.scalar accesses blocks c.charge_of-charge.result c.place_by.result = record {
      number = refl;
      placed = rw (c.deref-5.ensures.value, c.of.ensures, c.of-2.ensures, c.new.ensures.items, c.of-3.ensures, same) at c.place_by.ensures.placed;
      touched = λ task of. c.in_ok-blocks.ensures.touched task (of ∙ sym c.deref.ensures.value);
      charged = λ task of has. c.charge_of-charge.ensures task (of ∙ sym c.deref-2.ensures.value) (has ∙ sym c.deref-3.ensures.value);
    } in
    rw (c.of.ensures, c.of-2.ensures, c.new.ensures.items, c.of-3.ensures, same)
    (task_is d c.args.region.now c.args.line (d.regions + 1) c.args.kernel c.args.scalar accesses blocks c.charge_of-charge.result c.place_by.result c.requires.sound c.requires.opened parts word given pieces named given_is shown)
