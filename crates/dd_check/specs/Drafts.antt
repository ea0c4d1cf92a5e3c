-- What a draft stands for, and what it keeps beside the rows so that nothing is counted twice.
use Rattle.std.specs.Prelude.{◌≡◌, ℕ, ◌+◌, ◌<◌, ◌≤◌, map, length, Option, None, Some, sum_by, slice_index_or}
use Rattle.std.specs.Option.{option_map}
use Rattle.dd_blocks.specs.declared.task_row.TaskRow.{TaskRow}
use Rattle.dd_blocks.specs.ArrayHomes.{AreMovedTo}
use Rattle.dd_blocks.specs.Charges.{access_elements}
use Rattle.dd_blocks.specs.Layout.{elements_in}
use Rattle.dd_blocks.specs.Limits.{text_limit}
use Rattle.dd_blocks.specs.Lives.{names_ended, names_given, regions_run}
use Rattle.dd_blocks.specs.Touches.{touches_in}
use Rattle.dd_check.specs.declared.draft.Draft.{Draft}
use Rattle.dd_check.specs.declared.opened.Opened.{Opened}
use Rattle.dd_check.specs.Above.{Above, OpenRegion}
use Rattle.dd_check.specs.Lookup.{array_by}
use Rattle.dd_check.specs.Sound.{IsSound}

abbrev pub region_of : Opened → OpenRegion
region_of o = record { line = o.line; tasks = o.tasks.items }

abbrev pub above_of : Draft → Above
above_of d = record { plan = d.plan; live = array_by d.names; opened = option_map region_of d.opened; settled = d.settled }

-- what an open region keeps of its tasks
pub record Sums (o : Opened) : Type 0 where
  pub procs : o.procs.items ≡ map (λ (t : TaskRow). t.proc) o.tasks.items
  pub elements : o.elements ≡ sum_by access_elements o.tasks.items
  pub touches : o.touches ≡ sum_by (λ (t : TaskRow). length t.blocks) o.tasks.items

abbrev pub SumsOpen : Option Opened → Type 0
SumsOpen None = Unit {0}
SumsOpen (Some o) = Sums o

-- what a draft keeps of its rows
pub record Counts (d : Draft) : Type 0 where
  pub each : length d.counts.items ≡ length d.plan.arrays
  pub names : (array : ℕ) → array < length d.plan.arrays
      → names_ended (array + 1) d.plan.statements + slice_index_or d.counts.items array 0 ≡ names_given (array + 1) d.plan.statements
  pub elements : d.elements ≡ elements_in d.plan.arrays
  pub regions : d.regions ≡ length (regions_run d.plan.statements)
  pub touches : d.touches ≡ touches_in d.plan
  pub opened : SumsOpen d.opened
  pub homes : AreMovedTo (length d.plan.arrays) d.plan.statements d.homes.items

-- whatever the lines above say, this holds of a draft
pub record IsSoundDraft (d : Draft) : Type 0 where
  pub lines : ℕ
  pub few : lines ≤ text_limit
  pub above : IsSound lines (above_of d)
  pub counts : Counts d
