use Rattle.std.proofs.Common.{◌≡◌, ◌-◌, ℕ, List, map, get_or, sym, ap, ◌∙◌, subst, rules}
use Rattle.std.specs.List.{All}
use Rattle.dd_kernels.specs.Shapes.{size_of}
use Rattle.dd_blocks.specs.declared.access_row.AccessRow.{AccessRow}
use Rattle.dd_blocks.specs.declared.task_row.TaskRow.{TaskRow}
use Rattle.dd_blocks.specs.Numbered.{task_row}
use Rattle.dd_blocks.specs.Tasks.{shapes_in}
use Rattle.dd_meaning.specs.Lists.{lists_of}
use Rattle.dd_stamps.specs.Found.{HaveFound, IsSmallView}
use Rattle.dd_stamps.proofs.FoundLemmas.{accesses_named, accesses_views, found_none, small_view}
use Rattle.dd_stamps.proofs.work.Work.new.Goals as goal

pub buffers-requires : goal.buffers-requires
buffers-requires c =
    let same = c.as_slice.ensures ∙ ap (λ (r : TaskRow). r.accesses) c.task_row-row.ensures in
    subst (λ (accesses : List AccessRow). All (λ (a : AccessRow). IsSmallView a.view) accesses) (sym same)
    (λ k d lt. small_view c.args.plan.now (get_or (task_row c.args.plan.now c.args.task).accesses k d).view c.requires.well (accesses_named c.args.plan.now c.args.task c.requires.well c.requires.known k d lt) (accesses_views c.args.plan.now c.args.task c.requires.well c.requires.known k d lt))

pub invariant_of-result-clause-shaped : goal.invariant_of-result-clause-shaped
invariant_of-result-clause-shaped c = λ _. c.in_ok-args.ensures.shapes ∙ ap shapes_in (c.as_slice.ensures ∙ ap (λ (r : TaskRow). r.accesses) c.task_row-row.ensures)

pub invariant_of-result-clause-filled : goal.invariant_of-result-clause-filled
invariant_of-result-clause-filled c = λ _. c.in_ok-args.ensures.filled ∙ ap (λ (l : List AccessRow). map size_of (shapes_in l)) (c.as_slice.ensures ∙ ap (λ (r : TaskRow). r.accesses) c.task_row-row.ensures)

pub invariant_of-result-clause-found : goal.invariant_of-result-clause-found
invariant_of-result-clause-found c =
    let left : c.in_ok-to_vec.field-0.items ≡ (task_row c.args.plan.now c.args.task).blocks = search rules in
    ∣ (λ told stage. subst (λ (bs : List ℕ). HaveFound c.args.plan.now (c.args.task - 1) bs (task_row c.args.plan.now c.args.task).accesses (lists_of c.in_ok-args.args.bufs.items)) (sym left)
    (found_none c.args.plan.now c.args.task (c.args.task - 1) (lists_of c.in_ok-args.args.bufs.items) c.requires.well c.requires.known)) ∣₁
