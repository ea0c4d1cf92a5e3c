use Rattle.std.proofs.Common.{◌≡◌, suc, ◌+◌, length, ap, ◌∙◌, Option, arith, ℕ, sum_by}
use Rattle.std.specs.Option.{option_or}
use Rattle.dd_blocks.specs.Charges.{access_elements}
use Rattle.dd_blocks.specs.Limits.{region_elements_limit, region_tasks_limit, touches_limit}
use Rattle.dd_check.specs.Above.{open_tasks}
use Rattle.dd_check.specs.Drafts.{above_of}
use Rattle.dd_check.specs.Kinds.{touches_with}
use Rattle.dd_check.proofs.AmountLemmas.{alone, three_asked}
use Rattle.dd_check.proofs.RegionLemmas.{counted}
use Rattle.dd_check.proofs.TaskLemmas.{small_accesses}
use Rattle.dd_check.proofs.limits.passed_by_task.Goals as goal

pub access_elements-requires-clause-small : goal.access_elements-requires-clause-small
access_elements-requires-clause-small c =
    rw c.as_slice.ensures
    (small_accesses c.args.draft.now.plan c.args.task.now.accesses c.requires.sound.above.limits.elements c.requires.views)

pub overflow_add-elements : goal.overflow_add-elements
overflow_add-elements c =
    let all = counted c.args.draft.now c.args.region.now c.requires.sound c.requires.opened in
    omega (arith, all.few_elements, c.access_elements.ensures.few)

pub overflow_add-touches : goal.overflow_add-touches
overflow_add-touches c =
    let all = counted c.args.draft.now c.args.region.now c.requires.sound c.requires.opened in
    omega (arith, all.few_touches)

pub returns : goal.returns
returns c =
    let s = above_of c.args.draft.now in
    let all = counted c.args.draft.now c.args.region.now c.requires.sound c.requires.opened in
    let count = c.len.ensures in
    let given : c.access_elements.result ≡ access_elements c.args.task.now = rw c.as_slice.ensures at c.access_elements.ensures.value in
    let blocks : length c.as_slice-2.result.now ≡ length c.args.task.now.blocks = ap length c.as_slice-2.ensures in
    c.or-2.ensures
    ∙ (ap (λ (o : Option ℕ). option_or o c.over-3.result) c.or.ensures
    ∙ three_asked c.over.result c.over-2.result c.over-3.result _ _ _ region_tasks_limit region_elements_limit touches_limit
    (alone _ _ (suc (length (open_tasks s))) region_tasks_limit c.over.ensures (omega (arith, count, all.tasks, c.args.region.now.tasks.ok.0)))
    (alone _ _ (sum_by access_elements (open_tasks s) + access_elements c.args.task.now) region_elements_limit c.over-2.ensures (omega (arith, all.elements, given)))
    (alone _ _ (touches_with s (length c.args.task.now.blocks)) touches_limit c.over-3.ensures (omega (arith, all.touches (length c.args.task.now.blocks), blocks))))
