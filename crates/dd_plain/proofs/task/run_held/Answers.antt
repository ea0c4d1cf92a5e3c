use Rattle.std.proofs.Common.{length, sym, ap, ◌∙◌}
use Rattle.std.proofs.lemmas.List.{length-map}
use Rattle.dd_plain.specs.Lending.{AreHeld, is_lent}
use Rattle.dd_plain.specs.Lists.{lists_of}
use Rattle.dd_plain.proofs.StepLemmas.{are_held, length_without_all, step_sizes, still_held, task_stepped, there}
use Rattle.dd_lists.proofs.VectorsLemmas.{items_written}
use Rattle.dd_plain.proofs.SizesLemmas.{as_many}
use Rattle.dd_plain.proofs.task.run_held.Goals as goal

pub compute-requires-clause-held : goal.compute-requires-clause-held
compute-requires-clause-held c =
    rw (c.deref_mut.ensures.value, c.in_ok-held.ensures.lists, c.as_slice-accesses.ensures) (are_held c.args.arrays.now (is_lent c.args.task.now.accesses) (lists_of c.args.world.now) c.args.task.now.accesses c.requires.sizes c.requires.can.accesses)

pub return_all-requires-clause-paired : goal.return_all-requires-clause-paired
return_all-requires-clause-paired c =
    sym (length-map c.take_all.new.world (λ v. v.items)) ∙ ap length c.in_ok-held.ensures.world
    ∙ length_without_all (is_lent c.as_slice-accesses.result.now) (lists_of c.args.world.now) c.as_slice-accesses.result.now
    ∙ as_many c.args.arrays.now (lists_of c.args.world.now) c.requires.sizes

pub return_all-requires-clause-there : goal.return_all-requires-clause-there
return_all-requires-clause-there c =
    rw (c.in_ok-held.ensures.world, c.as_slice-accesses.ensures) (there c.args.arrays.now (lists_of c.args.world.now) c.args.task.now.accesses c.requires.sizes c.requires.can.accesses)

pub return_all-requires-clause-held : goal.return_all-requires-clause-held
return_all-requires-clause-held c =
    let task = c.args.task.now in
    let first : AreHeld (is_lent c.args.task.now.accesses) c.args.task.now.accesses (lists_of c.deref_mut.result.now) = rw (c.deref_mut.ensures.value, c.in_ok-held.ensures.lists, c.as_slice-accesses.ensures) (are_held c.args.arrays.now (is_lent task.accesses) (lists_of c.args.world.now) task.accesses c.requires.sizes c.requires.can.accesses) in
    let written = c.deref_mut-2.ensures.value ∙ items_written c.in_ok-held.held c.compute.new.held (c.compute.auto.held ∙ ap length c.deref_mut.ensures.value) in
    rw (written, c.as_slice-accesses.ensures, c.compute.ensures.put) (still_held (is_lent task.accesses) task.accesses _ _ c.compute.ensures.made first)

pub returns-clause-stepped : goal.returns-clause-stepped
returns-clause-stepped c =
    let wrote = rw (c.deref_mut.ensures.value, c.in_ok-held.ensures.lists, c.as_slice-accesses.ensures) at c.compute.ensures in
    let written = c.deref_mut-2.ensures.value ∙ items_written c.in_ok-held.held c.compute.new.held (c.compute.auto.held ∙ ap length c.deref_mut.ensures.value) in
    let back = rw (c.in_ok-held.ensures.world, c.as_slice-accesses.ensures, written) at c.return_all.ensures in
    back ∙ task_stepped c.args.arrays.now (lists_of c.args.world.now) c.args.task.now (lists_of c.compute.new.held) c.requires.can c.requires.sizes wrote

pub returns-clause-sizes : goal.returns-clause-sizes
returns-clause-sizes c = rw (returns-clause-stepped c) (step_sizes c.args.arrays.now (lists_of c.args.world.now) c.args.task.now c.requires.can c.requires.sizes)
