-- The tasks of a region, with their dependencies.
use Rattle.std.proofs.Common.{◌≡◌, ℕ, suc, ◌+◌, ◌<◌, ◌≤◌, ◌^◌, List, [], ◌∷◌, ◌++◌, map, length, get_or, drop, Option, None, Some, refl, sym, ap, subst, ◌∙◌, arith, add-one, append_assoc}
use Rattle.std.specs.List.{All, sum_by, cons_option}
use Rattle.std.specs.Option.{option_map}
use Rattle.std.proofs.lemmas.List.{append-nil}
use Rattle.std.proofs.Math.ListN.{drop_of_length-le}
use Rattle.std.proofs.lemmas.List.Elements.{All-from_get_or, Contains-get_or}
use Rattle.std.proofs.lemmas.List.Sums.{sum_by-append, sum_by-cons}
use Rattle.std.proofs.Math.Seq.{drop-cons}
use Rattle.dd_blocks.specs.declared.statement_row.StatementRow.{StatementRow}
use Rattle.dd_blocks.specs.declared.task_row.TaskRow.{TaskRow}
use Rattle.dd_blocks.specs.declared.what.What.TheVariants.{Region}
use Rattle.dd_blocks.specs.Lives.{region_run, regions_run}
use Rattle.dd_blocks.specs.Numbered.{array_row}
use Rattle.dd_blocks.specs.Tasks.{shape_in}
use Rattle.dd_alias.specs.Dependencies.{AreDependenciesOfAll}
use Rattle.dd_alias.specs.Shapes.{HaveOneShape}
use Rattle.dd_check.specs.declared.draft.Draft.{Draft}
use Rattle.dd_check.specs.declared.opened.Opened.{Opened}
use Rattle.dd_check.specs.Above.{next_region}
use Rattle.dd_check.specs.Ahead.{CountsAhead}
use Rattle.dd_check.specs.Drafts.{Counts, IsSoundDraft, SumsOpen, above_of, region_of}
use Rattle.dd_check.specs.Effects.{add_statement, add_tasks, with_open, with_plan}
use Rattle.dd_check.specs.RegionEnd.{reopened}
use Rattle.dd_check.specs.Rows.{with_deps, with_found}

-- the task at a place, and what is left behind it
pub found_at : (before : ℕ) (ts : List TaskRow) (fs : List (List ℕ)) (i : ℕ) (t : TaskRow) (f : List ℕ) → i < length ts → i < length fs
    → with_found before (drop i ts) (drop i fs) ≡ with_deps (map (λ d. before + d) (get_or fs i f)) (get_or ts i t) ∷ with_found before (drop (i + 1) ts) (drop (i + 1) fs)
found_at before ts fs i t f low few = rw (add-one, drop-cons ts i t, drop-cons fs i f) refl

-- one task more
pub found_more : (before : ℕ) (ts : List TaskRow) (fs : List (List ℕ)) (i : ℕ) (task : TaskRow) (places deps : List ℕ) (done start new : List TaskRow)
    → i < length ts → i < length fs → task ≡ get_or ts i task → places ≡ get_or fs i places → deps ≡ map (λ d. before + d) places
    → new ≡ done ++ with_deps deps task ∷ []
    → done ++ with_found before (drop i ts) (drop i fs) ≡ start
    → new ++ with_found before (drop (i + 1) ts) (drop (i + 1) fs) ≡ start
found_more before ts fs i task places deps done start new low few is_task is_places is_deps is_new so_far =
    let rest = with_found before (drop (i + 1) ts) (drop (i + 1) fs) in
    let head : with_deps (map (λ d. before + d) (get_or fs i places)) (get_or ts i task) ≡ with_deps deps task =
    ap (λ (f : List ℕ). with_deps (map (λ d. before + d) f) (get_or ts i task)) (sym is_places)
    ∙ ap (λ (t : TaskRow). with_deps (map (λ d. before + d) places) t) (sym is_task)
    ∙ ap (λ (l : List ℕ). with_deps l task) (sym is_deps) in
    let whole : with_found before (drop i ts) (drop i fs) ≡ with_deps deps task ∷ rest = found_at before ts fs i task places low few ∙ ap (λ (t : TaskRow). t ∷ rest) head in
    ap (λ (l : List TaskRow). l ++ rest) is_new ∙ append_assoc done (with_deps deps task ∷ []) rest ∙ ap (λ (l : List TaskRow). done ++ l) (sym whole) ∙ so_far

-- and all of them
pub found_all : (before : ℕ) (ts : List TaskRow) (fs : List (List ℕ)) (i : ℕ) (done start : List TaskRow) → length ts ≤ i
    → done ++ with_found before (drop i ts) (drop i fs) ≡ start → done ≡ start
found_all before ts fs i done start past so_far =
    let none : drop i ts ≡ [] = drop_of_length-le ts past in
    sym (append-nil done) ∙ ap (λ (l : List TaskRow). done ++ with_found before l (drop i fs)) (sym none) ∙ so_far

-- dependencies touch no blocks
found_touches : (before : ℕ) (ts : List TaskRow) (fs : List (List ℕ)) → length fs ≡ length ts
    → sum_by (λ (t : TaskRow). length t.blocks) (with_found before ts fs) ≡ sum_by (λ (t : TaskRow). length t.blocks) ts
found_touches before [] fs each = refl
found_touches before (t ∷ ts) [] each = absurd (omega (arith, each))
found_touches before (t ∷ ts) (f ∷ fs) each =
    let rest = found_touches before ts fs (omega (arith, each)) in
    sum_by-cons (λ (t : TaskRow). length t.blocks) (with_deps (map (λ d. before + d) f) t) (with_found before ts fs) ∙ ap (λ n. length t.blocks + n) rest ∙ sym (sum_by-cons (λ (t : TaskRow). length t.blocks) t ts)

-- the views of an open region are of the arrays of the plan
pub one_shape : (d : Draft) (region : Opened) → IsSoundDraft (reopened region d) → HaveOneShape region.tasks.items
one_shape d region sound = (λ (a : ℕ). shape_in (array_row d.plan a), λ k t low i a few. ((sound.above.region.tasks k t low).views i a few).view)

-- the numbers of the tasks on which others depend fit
pub numbers_fit : (before : ℕ) (tasks : List TaskRow) (found : List (List ℕ)) → AreDependenciesOfAll tasks found → before + length tasks < 2 ^ 32
    → All (λ (places : List ℕ). All (λ place. before + place < 2 ^ 32) places) found
numbers_fit before tasks found deps few = All-from_get_or (λ (places : List ℕ). All (λ place. before + place < 2 ^ 32) places) found [] each
  where
    each : (i : ℕ) → i < length found → All (λ place. before + place < 2 ^ 32) (get_or found i [])
    each i low k d short =
        let of_task = deps.each (suc i) (omega arith, omega (arith, low, deps.count)) in
        let precedes = (of_task.exact (get_or (get_or found i []) k d)).0 (Contains-get_or (get_or found i []) k d short) in
        omega (arith, precedes.1, low, deps.count)

one_more : (o : Option ℕ) (xs : List ℕ) → length (cons_option o xs) ≤ length xs + 1
one_more None xs = omega arith
one_more (Some x) xs = omega arith

few_run : (rows : List StatementRow) → length (regions_run rows) ≤ length rows
few_run [] = omega arith
few_run (row ∷ rows) =
    let rest = few_run rows in
    omega (arith, one_more (region_run row.what) (regions_run rows), rest)

-- the regions that ran are at most as many as the rows
pub few_regions : (d : Draft) → Counts d → d.regions ≤ length d.plan.statements
few_regions d h = omega (arith, h.regions, few_run d.plan.statements)

module _ (d : Draft) (region : Opened) (sound : IsSoundDraft (reopened region d)) (closed : d.opened ≡ None) (found : List (List ℕ)) (tasks : List TaskRow)
    (is : tasks ≡ d.plan.tasks ++ with_found (length d.plan.tasks) region.tasks.items found) where
  -- the row that runs the region is counted already
  pub region_ahead : length found ≡ length region.tasks.items
      → CountsAhead (record d { plan = record d.plan { tasks = tasks }; regions = d.regions + 1; touches = d.touches + region.touches }) (Region (d.regions + 1))
  region_ahead each =
      let counts = sound.counts in
      let joined = with_found (length d.plan.tasks) region.tasks.items found in
      let blocks = λ (t : TaskRow). length t.blocks in
      let more : sum_by blocks tasks ≡ sum_by blocks d.plan.tasks + sum_by blocks region.tasks.items =
      ap (λ (ts : List TaskRow). sum_by blocks ts) is ∙ sum_by-append blocks d.plan.tasks joined ∙ ap (λ n. sum_by blocks d.plan.tasks + n) (found_touches (length d.plan.tasks) region.tasks.items found each) in
      record {
        each = counts.each;
        names = λ k low. omega (arith, counts.names k low);
        elements = counts.elements;
        regions = omega (arith, counts.regions);
        touches = omega (arith, counts.touches, counts.opened.touches, more);
        opened = subst SumsOpen (sym closed) tt;
        homes = counts.homes;
        array = tt;
      }

  -- and what is left then
  pub closed_on : (line : ℕ)
      → above_of (record d { plan = add_statement line (Region (d.regions + 1)) (record d.plan { tasks = tasks }); regions = d.regions + 1; touches = d.touches + region.touches })
      ≡ with_open None (with_plan (add_statement line (Region (next_region (above_of (reopened region d)))) (add_tasks (with_found (length d.plan.tasks) region.tasks.items found) d.plan)) (above_of (reopened region d)))
  closed_on line = λ i. record {
    plan = add_statement line (Region (sound.counts.regions i + 1)) (record d.plan { tasks = is i });
    live = (above_of d).live;
    opened = option_map region_of (closed i);
    settled = d.settled;
  }
