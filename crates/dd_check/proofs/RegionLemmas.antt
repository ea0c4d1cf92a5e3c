-- What a draft counts of the rows, and of the region that is open.
use Rattle.std.proofs.Common.{◌≡◌, ◌≢◌, ℕ, ◌+◌, ◌≤◌, false, List, length, Option, None, Some, refl, ap, subst, arith, sum_by}
use Rattle.std.specs.Prelude.{is_some}
use Rattle.std.specs.Option.{option_map}
use Rattle.dd_blocks.specs.declared.task_row.TaskRow.{TaskRow}
use Rattle.dd_blocks.specs.Charges.{access_elements}
use Rattle.dd_blocks.specs.Limits.{region_elements_limit, touches_limit}
use Rattle.dd_check.specs.declared.draft.Draft.{Draft}
use Rattle.dd_check.specs.declared.opened.Opened.{Opened}
use Rattle.dd_check.specs.Above.{open_tasks, open_tasks_of}
use Rattle.dd_check.specs.Drafts.{IsSoundDraft, Sums, SumsOpen, above_of, region_of}
use Rattle.dd_check.specs.Kinds.{touches_with}

-- no region is open where none may be
pub closed : (o : Option Opened) → ¬ (is_some (option_map region_of o) ≢ false) → o ≡ None
closed None not = refl
closed (Some o) not = absurd (not (λ e. cc))

-- then the touches are those of the rows
pub closed_touches : (d : Draft) (more : ℕ) → IsSoundDraft d → d.opened ≡ None → touches_with (above_of d) more ≡ d.touches + more
closed_touches d more sound none =
    let tasks : open_tasks (above_of d) ≡ open_tasks_of None = ap (λ (o : Option Opened). open_tasks_of (option_map region_of o)) none in
    let rows : sum_by (λ (t : TaskRow). length t.blocks) (open_tasks (above_of d)) ≡ 0 = ap (λ (ts : List TaskRow). sum_by (λ (t : TaskRow). length t.blocks) ts) tasks in
    omega (arith, rows, sound.counts.touches)

-- a region that is open
pub record IsCounted (d : Draft) (o : Opened) : Type 0 where
  pub tasks : length (open_tasks (above_of d)) ≡ length o.tasks.items
  pub elements : o.elements ≡ sum_by access_elements (open_tasks (above_of d))
  pub touches : (more : ℕ) → touches_with (above_of d) more ≡ d.touches + o.touches + more
  pub few_elements : o.elements ≤ region_elements_limit
  pub few_touches : d.touches + o.touches ≤ touches_limit

pub counted : (d : Draft) (o : Opened) → IsSoundDraft d → d.opened ≡ Some o → IsCounted d o
counted d o sound opened =
    let tasks : open_tasks (above_of d) ≡ o.tasks.items = ap (λ (x : Option Opened). open_tasks_of (option_map region_of x)) opened in
    let sums : Sums o = subst (λ (x : Option Opened). SumsOpen x) opened sound.counts.opened in
    let elements : sum_by access_elements (open_tasks (above_of d)) ≡ sum_by access_elements o.tasks.items = ap (λ (ts : List TaskRow). sum_by access_elements ts) tasks in
    let touches : sum_by (λ (t : TaskRow). length t.blocks) (open_tasks (above_of d)) ≡ sum_by (λ (t : TaskRow). length t.blocks) o.tasks.items = ap (λ (ts : List TaskRow). sum_by (λ (t : TaskRow). length t.blocks) ts) tasks in
    record {
      tasks = ap (λ (ts : List TaskRow). length ts) tasks;
      elements = omega (arith, elements, sums.elements);
      touches = λ more. omega (arith, touches, sums.touches, sound.counts.touches);
      few_elements = omega (arith, elements, sums.elements, sound.above.region.elements);
      few_touches = omega (arith, touches, sums.touches, sound.counts.touches, sound.above.region.touches);
    }
