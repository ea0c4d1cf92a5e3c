use Rattle.std.proofs.Common.{◌≡◌, ℕ, ◌+◌, ◌-◌, ◌^◌, ◌<◌, ◌≤◌, length, sym, ap, subst, ◌∙◌, arith, rules}
use Rattle.std.specs.List.{fold, range_with_len, sum_by}
use Rattle.dd_blocks.specs.Lives.{tasks_of}
use Rattle.dd_meaning.specs.Moves.{moved}
use Rattle.dd_meaning.specs.Steps.{step, world_after}
use Rattle.dd_meaning.specs.Text.{regions_above}
use Rattle.dd_meaning.specs.Versions.{tasks_through}
use Rattle.dd_kernels.proofs.ListsLemmas.{ap2}
use Rattle.dd_plain.specs.Lists.{lists_of}
use Rattle.dd_meaning.specs.RegionRows.{RunsAt}
use Rattle.dd_plain.specs.Sizes.{HasSizes}
use Rattle.dd_meaning.proofs.RegionTasksLemmas.{region_next}
use Rattle.dd_meaning.proofs.RegionRowsLemmas.{runs_next}
use Rattle.dd_plain.proofs.RegionLemmas.{sum_with, tasks_can_run}
use Rattle.dd_lists.proofs.VectorsLemmas.{items_written}
use Rattle.dd_plain.proofs.run.run_region.Goals as goal

pub run_tasks-requires-clause-can : goal.run_tasks-requires-clause-can
run_tasks-requires-clause-can c = rw (c.as_slice.ensures, c.tasks_of-tasks.ensures) (tasks_can_run c.args.plan.now c.args.region c.requires.well)

pub run_tasks-requires-clause-sizes : goal.run_tasks-requires-clause-sizes
run_tasks-requires-clause-sizes c = rw (c.as_slice.ensures, c.deref_mut.ensures.value) c.requires.begun.sizes

pub in_region-requires-clause-row : goal.in_region-requires-clause-row
in_region-requires-clause-row c = subst (RunsAt c.args.plan.now c.args.i) (runs_next c.args.plan.now c.args.i c.args.region c.requires.well c.requires.row).0 c.requires.row

pub in_region-requires-clause-tasks : goal.in_region-requires-clause-tasks
in_region-requires-clause-tasks c = c.tasks_of-tasks.ensures ∙ ap (tasks_of c.args.plan.now) (runs_next c.args.plan.now c.args.i c.args.region c.requires.well c.requires.row).0

pub overflow_add-run : goal.overflow_add-run
overflow_add-run c =
    let next = runs_next c.args.plan.now c.args.i c.args.region c.requires.well c.requires.row in
    let small : c.args.region < 2 ^ 32 = search rules in
    omega (arith, c.requires.begun.few, c.in_region.ensures.few, next.0, small)

pub returns : goal.returns
returns c =
    let plan = c.args.plan.now in
    let i = c.args.i in
    let region = c.args.region in
    let next = runs_next plan i region c.requires.well c.requires.row in
    let low : 1 ≤ region = omega (arith, next.0) in
    let before : regions_above plan i ≡ region - 1 = omega (arith, next.0) in
    let more : regions_above plan i + 1 ≡ regions_above plan (i + 1) = omega (arith, next.0, next.1) in
    let old = c.deref_mut.ensures.value in
    let kept = items_written c.args.run.now.world c.run_tasks.new.world (c.run_tasks.auto.world ∙ ap length old) in
    let begun = c.requires.begun.world ∙ ap (λ (n : ℕ). world_after plan (tasks_through plan n)) before in
    let ran = ap2 (fold step) (ap lists_of old ∙ begun) c.tasks_of-tasks.ensures in
    record {
      world = ap lists_of kept ∙ c.in_ok-run_tasks.ensures.stepped ∙ ran ∙ region_next plan region low c.requires.well.regions.tasks
          ∙ ap (λ (n : ℕ). world_after plan (tasks_through plan n)) (sym next.1);
      sizes = rw kept (subst (λ arrays. HasSizes arrays (lists_of c.run_tasks.new.world)) c.as_slice.ensures c.in_ok-run_tasks.ensures.sizes);
      moved = λ less.
          let above : i < c.args.run.now.moves.asked = omega (arith, less, c.in_region.ensures.asked) in
          ap2 (λ m n. m + n) (c.requires.begun.moved above) (c.in_region.ensures.value above) ∙ sum_with (moved plan) (regions_above plan i)
          ∙ ap (λ (n : ℕ). sum_by (moved plan) (range_with_len 1 n)) more;
      few = omega (arith, c.requires.begun.few, c.in_region.ensures.few, more);
      rest = c.in_region.ensures.rest;
    }
