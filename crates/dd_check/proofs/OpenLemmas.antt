-- A region opens, and a task is added to it.
use Rattle.std.proofs.Common.{◌≡◌, ℕ, suc, ◌+◌, ◌≤◌, true, [], ◌∷◌, ◌++◌, length, get_or, Option, Some, refl, arith}
use Rattle.std.specs.List.{sum_by}
use Rattle.std.proofs.lemmas.List.{length-append}
use Rattle.std.proofs.lemmas.List.Elements.{All-push}
use Rattle.std.proofs.lemmas.List.Sums.{sum_by_push}
use Rattle.dd_blocks.specs.declared.task_row.TaskRow.{TaskRow}
use Rattle.dd_blocks.specs.Charges.{access_elements}
use Rattle.dd_blocks.specs.Limits.{region_elements_limit, region_tasks_limit, touches_limit}
use Rattle.dd_blocks.specs.Touches.{touches_in}
use Rattle.dd_script.specs.declared.statement.Statement.TheVariants.{Region}
use Rattle.dd_check.specs.Above.{Above, OpenRegion, open_tasks, open_tasks_of}
use Rattle.dd_check.specs.Effects.{add_task, line_opened, with_open}
use Rattle.dd_check.specs.Sound.{IsOpenTask, IsSound, IsSoundRegion}
use Rattle.dd_check.proofs.ClearLemmas.{Clear}
use Rattle.dd_check.proofs.PushLemmas.{IsReady, line_kept, no_tasks_region, ready_machine}
use Rattle.dd_check.proofs.RowKindsLemmas.{ready_for}

-- with other tasks in the region that is open the rest stays
pub reopened : (n : ℕ) (s : Above) (opened : Option OpenRegion) → IsSound n s → IsReady s → IsSoundRegion (with_open opened s) → length s.plan.tasks + length (open_tasks_of opened) ≤ suc n → IsSound (suc n) (with_open opened s)
reopened n s opened sound ready region few = record {
  machine = ready_machine (with_open opened s) (record { settled = ready.settled; spaces = ready.spaces; procs = ready.procs });
  names_rows = sound.names_rows;
  layout = sound.layout;
  tasks = sound.tasks;
  homes = sound.homes;
  limits = sound.limits;
  regions = sound.regions;
  lives = sound.lives;
  names = record {
    live = sound.names.live;
    names = λ array number. record {
      names = (sound.names.names array number).names;
      apart = (sound.names.names array number).apart;
      exact = (sound.names.names array number).exact;
      count = (sound.names.names array number).count;
    };
  };
  region = region;
  line = line_kept n s (with_open opened s) sound.line refl few;
}

pub region_enters : (n : ℕ) (s : Above) → IsSound n s → s.settled ≡ true → Clear (suc n) s Region → IsSound (suc n) (with_open (Some (record { line = suc n; tasks = [] })) s)
region_enters n s sound settled clear = reopened n s (Some (record { line = suc n; tasks = [] })) sound (ready_for n (suc n) s Region sound settled refl clear)
    (no_tasks_region (with_open (Some (record { line = suc n; tasks = [] })) s) refl sound.limits.touches)
    (omega (arith, sound.line.tasks))

-- what holds of an open task holds of it with another region open in place of its own
open_task : (s : Above) (opened : Option OpenRegion) (task : TaskRow) → IsOpenTask s task → IsOpenTask (with_open opened s) task
open_task s opened task t = record {
  region = t.region;
  live = t.live;
  views = t.views;
  kernel = t.kernel;
  proc = t.proc;
  deps = t.deps;
  blocks = t.blocks;
  charge = t.charge;
  within = t.within;
}

-- a task that is sound and passes no limit
pub record IsNextTask (s : Above) (task : TaskRow) : Type 0 where
  pub sound : IsOpenTask s task
  pub few : suc (length (open_tasks s)) ≤ region_tasks_limit
  pub elements : sum_by access_elements (open_tasks s) + access_elements task ≤ region_elements_limit
  pub touches : touches_in s.plan + sum_by (λ (t : TaskRow). length t.blocks) (open_tasks s) + length task.blocks ≤ touches_limit

pub task_added : (n : ℕ) (s : Above) (task : TaskRow) → IsSound n s → IsReady s → IsNextTask s task → IsSound (suc n) (add_task task s)
task_added n s task sound ready next =
    let long : length (open_tasks s ++ task ∷ []) ≡ length (open_tasks s) + 1 = length-append (open_tasks s) (task ∷ []) in
    reopened n s (Some (record { line = line_opened s; tasks = open_tasks s ++ task ∷ [] })) sound ready
    (record {
      tasks = All-push (IsOpenTask (add_task task s)) (open_tasks s) task (λ k d lt. open_task s (Some (record { line = line_opened s; tasks = open_tasks s ++ task ∷ [] })) (get_or (open_tasks s) k d) (sound.region.tasks k d lt)) (open_task s (Some (record { line = line_opened s; tasks = open_tasks s ++ task ∷ [] })) task next.sound);
      few = omega (arith, long, next.few);
      elements = omega (arith, sum_by_push access_elements (open_tasks s) task, next.elements);
      touches = omega (arith, sum_by_push (λ (t : TaskRow). length t.blocks) (open_tasks s) task, next.touches);
    })
    (omega (arith, long, sound.line.tasks))
