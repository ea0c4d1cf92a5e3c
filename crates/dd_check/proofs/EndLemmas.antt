-- A region ends.
use Rattle.std.proofs.Common.{◌≡◌, ◌≢◌, ℕ, suc, ◌+◌, ◌-◌, ◌<◌, ◌≤◌, true, false, nat_eq, List, [], ◌∷◌, ◌++◌, length, get_or, None, refl, ap, sym, subst, ◌∙◌, ⊎_elim, arith}
use Rattle.std.specs.List.{All, Contains, filter, flat_map, range_with_len, sum_by}
use Rattle.std.proofs.lemmas.Bool.{cases_eq, cases_lt, eq-eqb, ne_eqb}
use Rattle.std.proofs.lemmas.List.{append-nil, length-append}
use Rattle.std.proofs.lemmas.List.Elements.{All-append, All-push, All-weaker, filter-append, filter_map-append}
use Rattle.std.proofs.lemmas.List.Sums.{sum_by-append}
use Rattle.dd_views.proofs.ListsLemmas.{range_with_len_more}
use Rattle.dd_blocks.specs.declared.access_row.AccessRow.{AccessRow}
use Rattle.dd_blocks.specs.declared.statement_row.StatementRow.{StatementRow}
use Rattle.dd_blocks.specs.declared.task_row.TaskRow.{TaskRow}
use Rattle.dd_blocks.specs.declared.what.What.TheVariants as what
use Rattle.dd_blocks.specs.Charges.{AreTouched, access_elements}
use Rattle.dd_blocks.specs.Conflicts.{AreDependencies, AreInConflict, MustPrecede}
use Rattle.dd_blocks.specs.Limits.{touches_limit}
use Rattle.dd_blocks.specs.Lives.{IsLive, region_run, regions_run, tasks_of}
use Rattle.dd_blocks.specs.Numbered.{IsNumberIn, no_task, numbered, task_row}
use Rattle.dd_blocks.specs.Tasks.{IsDependency, IsSoundTask}
use Rattle.dd_blocks.specs.Touches.{touches_in}
use Rattle.dd_blocks.specs.WellFormed.{HasShortName, IsRegion, IsSmallRegion, TaskNamesRows}
use Rattle.dd_blocks.specs.OfPlan.{HasBlocks}
use Rattle.dd_check.specs.Above.{Above, next_region, open_tasks}
use Rattle.dd_check.specs.Effects.{add_statement, add_tasks, with_open, with_plan}
use Rattle.dd_check.specs.Rows.{with_deps, with_found}
use Rattle.dd_check.specs.Sound.{AreSoundNames, IsOpenTask, IsSound}
use Rattle.dd_check.proofs.OwnBlocksLemmas.{All_flat_map}
use Rattle.dd_check.proofs.ElementsLemmas.{contained}
use Rattle.dd_check.proofs.ExtendsLemmas.{Extends, task_kept, task_names_kept, touched_kept}
use Rattle.dd_check.proofs.JoinedLemmas.{all_joined, contains_shifted, joined_at, length_joined, rising_shifted, shifted, shifted_contains, sum_joined}
use Rattle.dd_check.proofs.LivesLemmas.{fits_push, live_push, lives_push, puts_push}
use Rattle.dd_check.proofs.NamesKeptLemmas.{names_same}
use Rattle.dd_check.proofs.PushLemmas.{IsReady, line_push, more_regions, no_tasks_region, ready_machine, row_on, rows_named, touches_push}
use Rattle.dd_check.proofs.RowsLemmas.{All_numbered, All_one, numbered_kept, numbered_more, rises_append}
use Rattle.dd_lists.proofs.ListsLemmas.{filter_all, filter_none}
use Rattle.dd_check.proofs.WithinLemmas.{touched_numbers}

module _ (n : ℕ) (s : Above) (found : List (List ℕ)) (sound : IsSound n s) (ready : IsReady s) (places : All (HasBlocks s.plan) s.plan.arrays) (each : length found ≡ length (open_tasks s))
    (exact : (t : ℕ) → IsNumberIn (open_tasks s) t → AreDependencies (open_tasks s) t (numbered [] found t)) where
  abbrev before : ℕ
  before = length s.plan.tasks

  abbrev joined : List TaskRow
  joined = with_found before (open_tasks s) found

  abbrev region : ℕ
  region = next_region s

  abbrev row : StatementRow
  row = row_on (suc n) (what.Region region)

  abbrev after : Above
  after = with_open None (with_plan (add_statement (suc n) (what.Region region) (add_tasks joined s.plan)) s)

  -- the open task of a number, and the same with its dependencies
  abbrev opened : ℕ → TaskRow
  opened t = numbered no_task (open_tasks s) t

  abbrev complete : ℕ → TaskRow
  complete t = with_deps (shifted before (numbered [] found t)) (opened t)

  open_sound : (t : ℕ) → IsNumberIn (open_tasks s) t → IsOpenTask s (opened t)
  open_sound t number = All_numbered (IsOpenTask s) no_task (open_tasks s) t sound.region.tasks number

  long : length joined ≡ length (open_tasks s)
  long = length_joined before (open_tasks s) found each

  long_all : length (s.plan.tasks ++ joined) ≡ before + length (open_tasks s)
  long_all = length-append s.plan.tasks joined ∙ ap (λ (x : ℕ). before + x) long

  -- all tasks of the new region, and none of another
  of_region : All (λ (t : TaskRow). t.region ≡ region) joined
  of_region = all_joined (λ (t : TaskRow). t.region ≡ region) before (open_tasks s) found each (λ t number. (open_sound t number).region)

  old_region : All (λ (t : TaskRow). t.region ≤ length (regions_run s.plan.statements)) s.plan.tasks
  old_region = All-weaker (TaskNamesRows s.plan) (λ (t : TaskRow). t.region ≤ length (regions_run s.plan.statements)) (λ t names. names.region.1) s.plan.tasks sound.names_rows.tasks

  tasks_other : (m : ℕ) → m ≢ region → tasks_of after.plan m ≡ tasks_of s.plan m
  tasks_other m other =
      let none : filter (λ (t : TaskRow). nat_eq t.region m) joined ≡ [] = filter_none (λ (t : TaskRow). nat_eq t.region m) joined (All-weaker (λ (t : TaskRow). t.region ≡ region) (λ (t : TaskRow). nat_eq t.region m ≡ false) (λ t is. ne_eqb t.region m (λ same. other (sym same ∙ is))) joined of_region) in
      filter-append (λ (t : TaskRow). nat_eq t.region m) s.plan.tasks joined ∙ rw none (append-nil (tasks_of s.plan m))

  tasks_new : tasks_of after.plan region ≡ joined
  tasks_new =
      let none : filter (λ (t : TaskRow). nat_eq t.region region) s.plan.tasks ≡ [] = filter_none (λ (t : TaskRow). nat_eq t.region region) s.plan.tasks (All-weaker (λ (t : TaskRow). t.region ≤ length (regions_run s.plan.statements)) (λ (t : TaskRow). nat_eq t.region region ≡ false) (λ t le. ne_eqb t.region region (λ same. absurd (omega arith))) s.plan.tasks old_region) in
      let all : filter (λ (t : TaskRow). nat_eq t.region region) joined ≡ joined = filter_all (λ (t : TaskRow). nat_eq t.region region) joined (All-weaker (λ (t : TaskRow). t.region ≡ region) (λ (t : TaskRow). nat_eq t.region region ≡ true) (λ t is. eq-eqb t.region region is) joined of_region) in
      filter-append (λ (t : TaskRow). nat_eq t.region region) s.plan.tasks joined ∙ rw none all

  regions_more : regions_run after.plan.statements ≡ regions_run s.plan.statements ++ region ∷ []
  regions_more = filter_map-append (λ (r : StatementRow). region_run r.what) s.plan.statements (row ∷ [])

  long_regions : length (regions_run after.plan.statements) ≡ region
  long_regions = ap (λ (xs : List ℕ). length xs) regions_more ∙ length-append (regions_run s.plan.statements) (region ∷ [])

  extends : Extends s.plan after.plan
  extends = record {
    spaces = refl;
    procs = refl;
    arrays = omega arith;
    blocks = omega arith;
    tasks = omega (arith, long_all);
    regions = more_regions s.plan.statements row;
    array = λ i number. refl;
    block = λ i number. refl;
    task = λ i number. numbered_kept no_task s.plan.tasks joined i number;
    region = λ m number. tasks_other m (λ same. absurd (omega (arith, number.1, same)));
  }

  new_region : IsRegion after.plan region
  new_region = (omega arith, omega (arith, long_regions))

  open_blocks : (t : ℕ) → IsNumberIn (open_tasks s) t → All (IsNumberIn s.plan.blocks) (opened t).blocks
  open_blocks t number = let o : IsOpenTask s (opened t) = open_sound t number in
      touched_numbers s.plan (opened t) (opened t).blocks places (numbers_of t number) o.views o.blocks
    where
      numbers_of : (u : ℕ) → IsNumberIn (open_tasks s) u → All (λ (a : AccessRow). IsNumberIn s.plan.arrays a.view.array) (opened u).accesses
      numbers_of u there k d lt = ((open_sound u there).live k d lt).0

  open_numbers : (t : ℕ) → IsNumberIn (open_tasks s) t → All (λ (a : AccessRow). IsNumberIn s.plan.arrays a.view.array) (opened t).accesses
  open_numbers t number k d lt = ((open_sound t number).live k d lt).0

  new_names : (t : ℕ) → IsNumberIn (open_tasks s) t → TaskNamesRows after.plan (complete t)
  new_names t number = record {
    region = subst (IsRegion after.plan) (sym (open_sound t number).region) new_region;
    accesses = open_numbers t number;
    proc = (open_sound t number).proc;
    deps = contained (IsNumberIn (s.plan.tasks ++ joined)) (shifted before (numbered [] found t)) (λ u there.
        let shift : (before ≤ u) × Contains (numbered [] found t) (u - before) = contains_shifted before (numbered [] found t) u there in
        let d : MustPrecede (open_tasks s) (u - before) t = ((exact t number).exact (u - before)).0 shift.1 in
        (omega (arith, d.0, shift.0), omega (arith, d.1, number.1, long_all, shift.0)));
    blocks = open_blocks t number;
  }

  -- the rows of new tasks among all
  row_new : (t : ℕ) → IsNumberIn (open_tasks s) t → task_row after.plan (before + t) ≡ complete t
  row_new t number = numbered_more no_task s.plan.tasks joined t number.0 ∙ joined_at before (open_tasks s) found t each number

  deps_to : (t u : ℕ) → IsNumberIn (open_tasks s) t → Contains (shifted before (numbered [] found t)) u → IsDependency after.plan u (before + t)
  deps_to t u number there =
      let shift : (before ≤ u) × Contains (numbered [] found t) (u - before) = contains_shifted before (numbered [] found t) u there in
      let d : MustPrecede (open_tasks s) (u - before) t = ((exact t number).exact (u - before)).0 shift.1 in
      let other : IsNumberIn (open_tasks s) (u - before) = (d.0, omega (arith, d.1, number.1)) in
      let whole : before + (u - before) ≡ u = omega (arith, shift.0) in
      let first : task_row after.plan u ≡ complete (u - before) = ap (task_row after.plan) (sym whole) ∙ row_new (u - before) other in
      let second : task_row after.plan (before + t) ≡ complete t = row_new t number in
      ((omega (arith, whole, d.0), omega (arith, whole, d.1), rw first (rw second d.2)), rw first (rw second ((open_sound (u - before) other).region ∙ sym (open_sound t number).region)))

  deps_from : (t u : ℕ) → IsNumberIn (open_tasks s) t → IsDependency after.plan u (before + t) → Contains (shifted before (numbered [] found t)) u
  deps_from t u number d = ⊎_elim
      (λ (new : before < u).
      let whole : before + (u - before) ≡ u = omega arith in
      let other : IsNumberIn (open_tasks s) (u - before) = (omega arith, omega (arith, d.0.1, number.1)) in
      let first : task_row after.plan u ≡ complete (u - before) = ap (task_row after.plan) (sym whole) ∙ row_new (u - before) other in
      let second : task_row after.plan (before + t) ≡ complete t = row_new t number in
      let conflict : AreInConflict (complete (u - before)) (complete t) = rw second at (rw first at d.0.2) in
      let there : Contains (numbered [] found t) (u - before) = ((exact t number).exact (u - before)).1 (other.0, omega (arith, d.0.1), conflict) in
      subst (Contains (shifted before (numbered [] found t))) whole (shifted_contains before (numbered [] found t) (u - before) there))
      (λ (old : u ≤ before).
      let there : IsNumberIn s.plan.tasks u = (d.0.0, old) in
      let first : task_row after.plan u ≡ task_row s.plan u = numbered_kept no_task s.plan.tasks joined u there in
      let second : task_row after.plan (before + t) ≡ complete t = row_new t number in
      let low : (task_row s.plan u).region ≤ length (regions_run s.plan.statements) = All_numbered (λ (x : TaskRow). x.region ≤ length (regions_run s.plan.statements)) no_task s.plan.tasks u old_region there in
      let same : (task_row s.plan u).region ≡ (opened t).region = rw second at (rw first at d.1) in
      absurd (omega (arith, low, same, (open_sound t number).region)))
      (cases_lt before u)

  new_task : (t : ℕ) → IsNumberIn (open_tasks s) t → IsSoundTask after.plan (before + t)
  new_task t number =
      let o : IsOpenTask s (opened t) = open_sound t number in
      let second : task_row after.plan (before + t) ≡ complete t = row_new t number in
      let touched : AreTouched after.plan (opened t) (opened t).blocks = touched_kept s.plan after.plan extends (opened t) (opened t).blocks (open_numbers t number) o.blocks in
      record {
        views = rw second o.views;
        kernel = rw second (record { modes = o.kernel.modes; shapes = o.kernel.shapes; scalar = o.kernel.scalar });
        deps_rise = rw second (rising_shifted before (numbered [] found t) (exact t number).rising);
        deps = λ u. (
          (λ there. deps_to t u number (subst (λ (task : TaskRow). Contains task.deps u) second there)),
          (λ d. subst (λ (task : TaskRow). Contains task.deps u) (sym second) (deps_from t u number d)),
        );
        blocks = rw second (record { rising = touched.rising; exact = touched.exact });
        charge = rw second o.charge;
        within = rw second o.within;
      }

  all_tasks : (t : ℕ) → IsNumberIn after.plan.tasks t → IsSoundTask after.plan t
  all_tasks t number = ⊎_elim
      (λ (new : before < t).
      let whole : before + (t - before) ≡ t = omega arith in
      subst (IsSoundTask after.plan) whole (new_task (t - before) (omega arith, omega (arith, number.1, long_all))))
      (λ (old : t ≤ before).
      let there : IsNumberIn s.plan.tasks t = (number.0, old) in
      task_kept s.plan after.plan extends t there (All_numbered (TaskNamesRows s.plan) no_task s.plan.tasks t sound.names_rows.tasks there) (sound.tasks t there))
      (cases_lt before t)

  few_touches : touches_in after.plan ≤ touches_limit
  few_touches =
      let blocks : sum_by (λ (t : TaskRow). length t.blocks) (s.plan.tasks ++ joined) ≡ sum_by (λ (t : TaskRow). length t.blocks) s.plan.tasks + sum_by (λ (t : TaskRow). length t.blocks) joined = sum_by-append (λ (t : TaskRow). length t.blocks) s.plan.tasks joined in
      let same : sum_by (λ (t : TaskRow). length t.blocks) joined ≡ sum_by (λ (t : TaskRow). length t.blocks) (open_tasks s) = sum_joined (λ (t : TaskRow). length t.blocks) (λ deps t. refl) before (open_tasks s) found each in
      omega (arith, blocks, same, touches_push s.plan after.plan row extends refl sound.names_rows.statements, sound.region.touches)

  each_region : (m : ℕ) → IsSmallRegion after.plan m
  each_region m = ⊎_elim
      (λ (same : m ≡ region).
      let tasks : tasks_of after.plan m ≡ joined = ap (tasks_of after.plan) same ∙ tasks_new in
      record {
        tasks = rw tasks (omega (arith, long, sound.region.few));
        elements = rw tasks (omega (arith, sum_joined access_elements (λ deps t. refl) before (open_tasks s) found each, sound.region.elements));
      })
      (λ (other : m ≢ region).
      let tasks : tasks_of after.plan m ≡ tasks_of s.plan m = tasks_other m other in
      record {
        tasks = rw tasks (sound.limits.each_region m).tasks;
        elements = rw tasks (sound.limits.each_region m).elements;
      })
      (cases_eq m region)

  region_lives : All (IsLive s.plan.statements) (flat_map (λ (t : TaskRow). flat_map (λ (a : AccessRow). a.view.array ∷ []) t.accesses) joined)
  region_lives = All_flat_map (IsLive s.plan.statements) (λ (t : TaskRow). flat_map (λ (a : AccessRow). a.view.array ∷ []) t.accesses) joined
      (all_joined (λ (t : TaskRow). All (IsLive s.plan.statements) (flat_map (λ (a : AccessRow). a.view.array ∷ []) t.accesses)) before (open_tasks s) found each
      (λ t number. All_flat_map (IsLive s.plan.statements) (λ (a : AccessRow). a.view.array ∷ []) (opened t).accesses (λ k d lt. All_one (IsLive s.plan.statements) (get_or (opened t).accesses k d).view.array ((open_sound t number).live k d lt).1)))

  end_names : AreSoundNames after
  end_names = record {
    live = λ name array is. ((sound.names.live name array is).0, live_push s.plan.statements row array (sound.names.live name array is).1 (λ e. absurd (cc)));
    names = λ array number. names_same s after row array refl refl refl (λ name. ((λ live. live), (λ live. live))) (sound.names.names array number);
  }

  pub end_sound : IsSound (suc n) after
  end_sound = record {
    machine = ready_machine after (record { settled = ready.settled; spaces = ready.spaces; procs = ready.procs });
    names_rows = record {
      procs = sound.names_rows.procs;
      blocks = sound.names_rows.blocks;
      tasks = All-append (TaskNamesRows after.plan) s.plan.tasks joined
          (λ k d lt. task_names_kept s.plan after.plan extends (get_or s.plan.tasks k d) (sound.names_rows.tasks k d lt))
          (all_joined (TaskNamesRows after.plan) before (open_tasks s) found each new_names);
      statements = rows_named s.plan after.plan row extends refl sound.names_rows.statements new_region;
    };
    layout = record { arrays = sound.layout.arrays; blocks = sound.layout.blocks };
    tasks = all_tasks;
    homes = λ k d lt. fits_push s.plan after.plan row (get_or s.plan.blocks k d) refl refl (sound.homes k d lt) (λ space is. absurd (cc));
    limits = record {
      each_space = sound.limits.each_space;
      each_proc = sound.limits.each_proc;
      each_array = sound.limits.each_array;
      each_statement = All-push (λ (r : StatementRow). HasShortName r.what) s.plan.statements row sound.limits.each_statement tt;
      spaces = sound.limits.spaces;
      procs = sound.limits.procs;
      arrays = sound.limits.arrays;
      elements = sound.limits.elements;
      blocks = sound.limits.blocks;
      each_region = each_region;
      touches = few_touches;
    };
    regions = record {
      tasks = rises_append (λ (t : TaskRow). t.region) region s.plan.tasks joined sound.regions.tasks
          (λ i j d le lt. let a : (get_or joined i d).region ≡ region = of_region i d (omega arith) in let b : (get_or joined j d).region ≡ region = of_region j d lt in omega (arith, a, b))
          (All-weaker (λ (t : TaskRow). t.region ≤ length (regions_run s.plan.statements)) (λ (t : TaskRow). t.region ≤ region) (λ t le. omega arith) s.plan.tasks old_region)
          (All-weaker (λ (t : TaskRow). t.region ≡ region) (λ (t : TaskRow). region ≤ t.region) (λ t is. omega (arith, is)) joined of_region);
      rows =
          let count : ℕ = length (regions_run s.plan.statements) in
          regions_more ∙ ap (λ (xs : List ℕ). xs ++ region ∷ []) sound.regions.rows
          ∙ ap (λ (x : ℕ). range_with_len 1 (length (regions_run s.plan.statements)) ++ x ∷ []) (let e : region ≡ 1 + length (regions_run s.plan.statements) = omega arith in e)
          ∙ sym (range_with_len_more 1 (length (regions_run s.plan.statements)))
          ∙ ap (range_with_len 1) (let e : suc (length (regions_run s.plan.statements)) ≡ length (regions_run after.plan.statements) = omega (arith, long_regions) in e);
    };
    lives = lives_push s.plan after.plan row extends refl sound.lives sound.names_rows.statements (rw (puts_push s.plan.statements row refl) sound.lives.puts)
        (record { live = subst (λ (tasks : List TaskRow). All (IsLive s.plan.statements) (flat_map (λ (t : TaskRow). flat_map (λ (a : AccessRow). a.view.array ∷ []) t.accesses) tasks)) (sym tasks_new) region_lives; last = tt });
    names = end_names;
    region = no_tasks_region after refl few_touches;
    line = line_push n s after (what.Region region) sound.line refl (omega (arith, long_all, sound.line.tasks));
  }
