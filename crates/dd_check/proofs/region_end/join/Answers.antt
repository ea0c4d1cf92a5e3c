use Rattle.std.proofs.Common.{◌≡◌, ℕ, ◌+◌, ◌<◌, ◌^◌, ◌++◌, List, length, refl, sym, ap, subst, ◌∙◌, arith}
use Rattle.std.specs.List.{All}
use Rattle.dd_blocks.specs.declared.task_row.TaskRow.{TaskRow}
use Rattle.dd_alias.specs.Dependencies.{AreDependenciesOfAll}
use Rattle.dd_alias.specs.Shapes.{HaveOneShape}
use Rattle.dd_check.specs.Rows.{with_found}
use Rattle.dd_check.proofs.RegionEndLemmas.{closed_on, few_regions, numbers_fit, one_shape, region_ahead}
use Rattle.dd_check.proofs.region_end.join.Goals as goal

pub deps-requires-clause-shapes : goal.deps-requires-clause-shapes
deps-requires-clause-shapes c = subst HaveOneShape (sym c.deref.ensures.value) (one_shape c.args.draft.now c.args.region c.requires.sound)

pub overflow_add-number : goal.overflow_add-number
overflow_add-number c = omega (arith, c.requires.sound.few, c.requires.sound.above.line.few, few_regions _ c.requires.sound.counts)

pub add_tasks-requires-clause-fits : goal.add_tasks-requires-clause-fits
add_tasks-requires-clause-fits c =
    let found = c.in_ok-found.found.items in
    let before = length c.as_slice.result.now in
    let deps = subst (λ (ts : List TaskRow). AreDependenciesOfAll ts found) c.deref.ensures.value c.in_ok-found.ensures in
    let few : before + length c.args.region.tasks.items < 2 ^ 32 = omega (arith, ap length c.as_slice.ensures, c.requires.sound.few, c.requires.sound.above.line.tasks) in
    subst (λ (fs : List (List ℕ)). All (λ (places : List ℕ). All (λ place. before + place < 2 ^ 32) places) fs) (sym c.deref-2.ensures.value) (numbers_fit before c.args.region.tasks.items found deps few)

pub add_row-requires : goal.add_row-requires
add_row-requires c =
    let d = c.args.draft.now in
    let found = c.in_ok-found.found.items in
    let deps = subst (λ (ts : List TaskRow). AreDependenciesOfAll ts found) c.deref.ensures.value c.in_ok-found.ensures in
    let is : c.add_tasks.new.tasks ≡ d.plan.tasks ++ with_found (length d.plan.tasks) c.args.region.tasks.items found =
    c.in_ok-add_tasks.ensures
    ∙ ap (λ (n : ℕ). d.plan.tasks ++ with_found n c.args.region.tasks.items c.deref-2.result.now) (ap length c.as_slice.ensures)
    ∙ ap (λ (fs : List (List ℕ)). d.plan.tasks ++ with_found (length d.plan.tasks) c.args.region.tasks.items fs) c.deref-2.ensures.value in
    region_ahead d c.args.region c.requires.sound c.requires.closed found c.add_tasks.new.tasks is deps.count

pub returns-clause-entered : goal.returns-clause-entered
returns-clause-entered c =
    let d = c.args.draft.now in
    let found = c.in_ok-found.found.items in
    let deps = subst (λ (ts : List TaskRow). AreDependenciesOfAll ts found) c.deref.ensures.value c.in_ok-found.ensures in
    let is : c.add_tasks.new.tasks ≡ d.plan.tasks ++ with_found (length d.plan.tasks) c.args.region.tasks.items found =
    c.in_ok-add_tasks.ensures
    ∙ ap (λ (n : ℕ). d.plan.tasks ++ with_found n c.args.region.tasks.items c.deref-2.result.now) (ap length c.as_slice.ensures)
    ∙ ap (λ (fs : List (List ℕ)). d.plan.tasks ++ with_found (length d.plan.tasks) c.args.region.tasks.items fs) c.deref-2.ensures.value in (
      with_found (length d.plan.tasks) c.args.region.tasks.items found,
      record { found = found; each = deps.count; exact = deps.each; is = refl },
      c.in_ok-add_row.ensures.above ∙ closed_on d c.args.region c.requires.sound c.requires.closed found c.add_tasks.new.tasks is c.args.line,
    )
