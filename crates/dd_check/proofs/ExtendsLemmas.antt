-- A Plan to which rows were appended: what held of its tasks and statements holds still.
use Rattle.std.proofs.Common.{◌≡◌, ℕ, ◌+◌, ◌*◌, ◌≤◌, List, length, get_or, sum, refl, ap, sym, subst, ◌∙◌, arith}
use Rattle.std.specs.List.{All, Contains}
use Rattle.std.proofs.lemmas.List.Elements.{All-weaker}
use Rattle.dd_blocks.specs.declared.access_row.AccessRow.{AccessRow}
use Rattle.dd_blocks.specs.declared.array_row.ArrayRow.{ArrayRow}
use Rattle.dd_blocks.specs.declared.plan.Plan.{Plan}
use Rattle.dd_blocks.specs.declared.task_row.TaskRow.{TaskRow}
use Rattle.dd_blocks.specs.declared.what.What.{What}
use Rattle.dd_blocks.specs.declared.what.What.TheVariants.{Put, Print, Sum, Moved, Same, Drop, MoveTo, Region}
use Rattle.dd_blocks.specs.Charges.{AreTouched, Touches, access_elements, block_with, charge_of, greatest, touched_sizes}
use Rattle.dd_blocks.specs.Elements.{HasElement, UsesElement}
use Rattle.dd_blocks.specs.Grids.{block_of, block_count}
use Rattle.dd_blocks.specs.Lives.{arrays_used, regions_run, tasks_of}
use Rattle.dd_blocks.specs.Numbered.{IsNumberIn, array_row, block_row, task_row}
use Rattle.dd_blocks.specs.Tasks.{IsDependency, IsShown, IsSoundTask, limit_at}
use Rattle.dd_blocks.specs.Touches.{touches_of}
use Rattle.dd_blocks.specs.WellFormed.{IsRegion, StatementNamesRows, TaskNamesRows}
use Rattle.dd_check.proofs.RowsLemmas.{All_any, map_agree, number_within}

pub record Extends (p q : Plan) : Type 0 where
  pub spaces : q.spaces ≡ p.spaces
  pub procs : q.procs ≡ p.procs
  pub arrays : length p.arrays ≤ length q.arrays
  pub blocks : length p.blocks ≤ length q.blocks
  pub tasks : length p.tasks ≤ length q.tasks
  pub regions : length (regions_run p.statements) ≤ length (regions_run q.statements)
  pub array : (n : ℕ) → IsNumberIn p.arrays n → array_row q n ≡ array_row p n
  pub block : (n : ℕ) → IsNumberIn p.blocks n → block_row q n ≡ block_row p n
  pub task : (n : ℕ) → IsNumberIn p.tasks n → task_row q n ≡ task_row p n
  pub region : (n : ℕ) → IsRegion p n → tasks_of q n ≡ tasks_of p n

module _ (p q : Plan) (e : Extends p q) where
  pub array_number : (n : ℕ) → IsNumberIn p.arrays n → IsNumberIn q.arrays n
  array_number n number = number_within p.arrays q.arrays n e.arrays number

  pub region_number : (n : ℕ) → IsRegion p n → IsRegion q n
  region_number n number = number_within (regions_run p.statements) (regions_run q.statements) n e.regions number

  pub task_names_kept : (task : TaskRow) → TaskNamesRows p task → TaskNamesRows q task
  task_names_kept task names = record {
    region = region_number task.region names.region;
    accesses = All-weaker (λ (a : AccessRow). IsNumberIn p.arrays a.view.array) (λ (a : AccessRow). IsNumberIn q.arrays a.view.array) (λ a number. array_number a.view.array number) task.accesses names.accesses;
    proc = rw e.procs names.proc;
    deps = All-weaker (IsNumberIn p.tasks) (IsNumberIn q.tasks) (λ n number. number_within p.tasks q.tasks n e.tasks number) task.deps names.deps;
    blocks = All-weaker (IsNumberIn p.blocks) (IsNumberIn q.blocks) (λ n number. number_within p.blocks q.blocks n e.blocks number) task.blocks names.blocks;
  }

  pub statement_names_kept : (what : What) → StatementNamesRows p what → StatementNamesRows q what
  statement_names_kept (Put array) names = array_number array names
  statement_names_kept (Print array) names = array_number array names
  statement_names_kept (Sum array name) names = array_number array names
  statement_names_kept Moved names = names
  statement_names_kept (Same array) names = array_number array names
  statement_names_kept (Drop array last) names = array_number array names
  statement_names_kept (MoveTo array space) names = (array_number array names.0, rw e.spaces names.1)
  statement_names_kept (Region region) names = region_number region names

  with_kept : (task : TaskRow) (array pos : ℕ) → All (λ (a : AccessRow). IsNumberIn p.arrays a.view.array) task.accesses → UsesElement task array pos → block_with q array pos ≡ block_with p array pos
  with_kept task array pos numbers uses =
      let number : IsNumberIn p.arrays (uses.1).view.array = All_any (λ (a : AccessRow). IsNumberIn p.arrays a.view.array) (λ (a : AccessRow). HasElement a array pos) task.accesses numbers uses in
      let here : IsNumberIn p.arrays array = subst (IsNumberIn p.arrays) uses.4.0 number in
      ap (λ (row : ArrayRow). row.first_block + block_of row.grid pos) (e.array array here)

  pub touched_kept : (task : TaskRow) (found : List ℕ) → All (λ (a : AccessRow). IsNumberIn p.arrays a.view.array) task.accesses → AreTouched p task found → AreTouched q task found
  touched_kept task found numbers touched = record {
    rising = touched.rising;
    exact = λ block. (
      (λ contains. let t : Touches p task block = (touched.exact block).0 contains in (t.0, t.1, t.2, with_kept task t.0 t.1 numbers t.2 ∙ t.3)),
      (λ t. (touched.exact block).1 (t.0, t.1, t.2, sym (with_kept task t.0 t.1 numbers t.2) ∙ t.3)),
    );
  }

  pub charge_kept : (task : TaskRow) → All (IsNumberIn p.blocks) task.blocks → charge_of q task ≡ charge_of p task
  charge_kept task numbers =
      let sizes : touched_sizes q task ≡ touched_sizes p task = map_agree (λ block. (block_row q block).size) (λ block. (block_row p block).size) task.blocks (λ k d lt. ap (λ row. row.size) (e.block _ (numbers k d lt))) in
      ap (λ (found : List ℕ). 8 * (sum found + access_elements task + greatest found)) sizes

  pub limit_kept : (task : TaskRow) → limit_at q task ≡ limit_at p task
  limit_kept task = rw e.spaces (rw e.procs refl)

  pub shown_kept : (accesses : List AccessRow) → All (λ (a : AccessRow). IsNumberIn p.arrays a.view.array) accesses → All (λ (a : AccessRow). IsShown (array_row p a.view.array) a.view) accesses → All (λ (a : AccessRow). IsShown (array_row q a.view.array) a.view) accesses
  shown_kept accesses numbers shown k d lt = subst (λ (row : ArrayRow). IsShown row (get_or accesses k d).view) (sym (e.array _ (numbers k d lt))) (shown k d lt)

  deps_kept : (t u : ℕ) → IsNumberIn p.tasks t → IsDependency p u t → IsDependency q u t
  deps_kept t u number d =
      let r : task_row q t ≡ task_row p t = e.task t number in
      let s : task_row q u ≡ task_row p u = e.task u (d.0.0, omega (arith, d.0.1)) in
      ((d.0.0, d.0.1, rw s (rw r d.0.2)), rw s (rw r d.1))

  deps_same : (t u : ℕ) → IsNumberIn p.tasks t → IsDependency q u t → IsDependency p u t
  deps_same t u number d =
      let r : task_row p t ≡ task_row q t = sym (e.task t number) in
      let s : task_row p u ≡ task_row q u = sym (e.task u (d.0.0, omega (arith, d.0.1))) in
      ((d.0.0, d.0.1, rw s (rw r d.0.2)), rw s (rw r d.1))

  pub task_kept : (t : ℕ) → IsNumberIn p.tasks t → TaskNamesRows p (task_row p t) → IsSoundTask p t → IsSoundTask q t
  task_kept t number names sound =
      let r : task_row q t ≡ task_row p t = e.task t number in
      record {
        views = rw r (shown_kept (task_row p t).accesses names.accesses sound.views);
        kernel = rw r sound.kernel;
        deps_rise = rw r sound.deps_rise;
        deps = λ u. (
          (λ contains. deps_kept t u number ((sound.deps u).0 (subst (λ (task : TaskRow). Contains task.deps u) r contains))),
          (λ d. subst (λ (task : TaskRow). Contains task.deps u) (sym r) ((sound.deps u).1 (deps_same t u number d))),
        );
        blocks = rw r (touched_kept (task_row p t) (task_row p t).blocks names.accesses sound.blocks);
        charge = rw r (sound.charge ∙ sym (charge_kept (task_row p t) names.blocks));
        within = rw r (subst (λ (limit : ℕ). (task_row p t).charge ≤ limit) (sym (limit_kept (task_row p t))) sound.within);
      }

  pub touches_kept : (what : What) → StatementNamesRows p what → touches_of q what ≡ touches_of p what
  touches_kept (Put array) names = refl
  touches_kept (Print array) names = ap (λ (row : ArrayRow). block_count row.grid) (e.array array names)
  touches_kept (Sum array name) names = ap (λ (row : ArrayRow). block_count row.grid) (e.array array names)
  touches_kept Moved names = refl
  touches_kept (Same array) names = refl
  touches_kept (Drop array last) names = refl
  touches_kept (MoveTo array space) names = ap (λ (row : ArrayRow). block_count row.grid) (e.array array names.0)
  touches_kept (Region region) names = refl

  pub used_kept : (what : What) → StatementNamesRows p what → arrays_used q what ≡ arrays_used p what
  used_kept (Put array) names = refl
  used_kept (Print array) names = refl
  used_kept (Sum array name) names = refl
  used_kept Moved names = refl
  used_kept (Same array) names = refl
  used_kept (Drop array last) names = refl
  used_kept (MoveTo array space) names = refl
  used_kept (Region region) names = rw (e.region region names) refl
