-- An array is made.
use Rattle.std.proofs.Common.{◌≡◌, ◌≢◌, ℕ, suc, ◌+◌, ◌*◌, ◌≤◌, Bool, true, false, nat_le, List, [], ◌∷◌, ◌++◌, length, get_or, None, Some, refl, ap, sym, subst, ◌∙◌, ⊎_elim, arith}
use Rattle.std.specs.Prelude.{ℤ, pos, negsuc, ◌&&◌, unsigned_abs}
use Rattle.std.specs.List.{All, range_with_len}
use Rattle.std.proofs.lemmas.Bool.{and_parts, cases_eq, eq-eqb, ne_eqb, leb-true, ltb-false}
use Rattle.std.proofs.lemmas.List.{length-append}
use Rattle.std.proofs.lemmas.List.Elements.{All-append, All-map, All-push, filter_map-append}
use Rattle.std.proofs.lemmas.List.Sums.{sum_by_push}
use Rattle.dd_blocks.specs.declared.array_row.ArrayRow.{ArrayRow}
use Rattle.dd_blocks.specs.declared.block_row.BlockRow.{BlockRow}
use Rattle.dd_blocks.specs.declared.fill.Fill.{Fill}
use Rattle.dd_blocks.specs.declared.plan.Plan.{Plan}
use Rattle.dd_blocks.specs.declared.statement_row.StatementRow.{StatementRow}
use Rattle.dd_blocks.specs.declared.what.What.TheVariants as what
use Rattle.dd_blocks.specs.Grids.{block_count, block_size, element_count}
use Rattle.dd_blocks.specs.Layout.{StandsBehind, blocks_in, blocks_of_array, elements_in, first_home}
use Rattle.dd_blocks.specs.Limits.{arrays_limit, blocks_limit, edge_limit, elements_limit, touches_limit}
use Rattle.dd_blocks.specs.Lives.{IsLive, array_put}
use Rattle.dd_blocks.specs.Numbered.{IsNumberIn, no_array, no_task, space_row}
use Rattle.dd_blocks.specs.Touches.{touches_in}
use Rattle.dd_blocks.specs.WellFormed.{FitsHomes, HasShortName, HasSmallEdges, IsFromOneTo, TaskNamesRows}
use Rattle.dd_script.specs.declared.statement.Statement.TheVariants.{Array}
use Rattle.dd_check.specs.Above.{Above, open_tasks_of}
use Rattle.dd_check.specs.Effects.{add_array, add_statement, with_name, with_plan}
use Rattle.dd_check.specs.Kinds.{is_edge, is_too_large}
use Rattle.dd_check.specs.Rows.{grid_of, next_array}
use Rattle.dd_check.specs.Sound.{AreSoundNames, IsSound}
use Rattle.dd_check.proofs.ClearLemmas.{Clear, closed_for, unnamed, within_limits}
use Rattle.dd_check.proofs.ElementsLemmas.{not_found}
use Rattle.dd_check.proofs.ExtendsLemmas.{Extends, task_kept, task_names_kept}
use Rattle.dd_check.proofs.FreshLemmas.{blocks_more, live_new, moves_new, no_names, range_more, stands_more}
use Rattle.dd_check.proofs.GivenLemmas.{names_added, names_apart, renamed, renamed_here, renamed_other, same_name}
use Rattle.dd_check.proofs.LivesLemmas.{fits_push, live_push, lives_push, regions_push}
use Rattle.dd_check.proofs.PushLemmas.{IsReady, line_push, more_regions, no_tasks_region, ready_machine, row_on, rows_named, touches_push}
use Rattle.dd_check.proofs.RowKindsLemmas.{ready_for}
use Rattle.dd_check.proofs.RowsLemmas.{All_numbered, IsNumberIn_more, numbered_kept}

-- an edge by its test
edge_is : (z : ℤ) → is_edge z ≡ true → IsFromOneTo edge_limit (unsigned_abs z)
edge_is (pos n) within =
    let parts : (nat_le 1 n ≡ true) × (nat_le n edge_limit ≡ true) = and_parts (nat_le 1 n) (nat_le n edge_limit) within in
    (leb-true 1 n parts.0, leb-true n edge_limit parts.1)
edge_is (negsuc n) within = absurd (cc)

pub four_parts : (a b c d : Bool) → ((a && b && c && d) ≡ false → ⊥) → (a ≡ true) × (b ≡ true) × (c ≡ true) × (d ≡ true)
four_parts true true true true h = (refl, refl, refl, refl)
four_parts false b c d h = absurd (h refl)
four_parts true false c d h = absurd (h refl)
four_parts true true false d h = absurd (h refl)
four_parts true true true false h = absurd (h refl)

-- what holds of the array that is made
pub record IsNext (plan : Plan) (row : ArrayRow) : Type 0 where
  pub behind : StandsBehind plan.arrays row
  pub edges : HasSmallEdges row
  pub arrays : suc (length plan.arrays) ≤ arrays_limit
  pub elements : elements_in plan.arrays + element_count row.grid ≤ elements_limit
  pub blocks : blocks_in plan.arrays + block_count row.grid ≤ blocks_limit
  pub fits : All (λ i. 16 * block_size row.grid i ≤ (space_row plan (first_home (length plan.spaces) (row.first_block + i))).limit) (range_with_len 0 (block_count row.grid))

pub next_for : (n : ℕ) (s : Above) (name : List ℕ) (rows cols brows bcols : ℤ) (fill : Fill) → Clear n s (Array name rows cols brows bcols fill) → IsNext s.plan (next_array s.plan (grid_of rows cols brows bcols) fill)
next_for n s name rows cols brows bcols fill clear =
    let edges : (is_edge rows ≡ true) × (is_edge cols ≡ true) × (is_edge brows ≡ true) × (is_edge bcols ≡ true) = four_parts (is_edge rows) (is_edge cols) (is_edge brows) (is_edge bcols) clear.shape in
    let high : IsFromOneTo edge_limit (unsigned_abs rows) = edge_is rows edges.0 in
    let wide : IsFromOneTo edge_limit (unsigned_abs cols) = edge_is cols edges.1 in
    let block_high : IsFromOneTo edge_limit (unsigned_abs brows) = edge_is brows edges.2 in
    let block_wide : IsFromOneTo edge_limit (unsigned_abs bcols) = edge_is bcols edges.3 in
    let amounts : List (ℕ × ℕ) = (suc (length s.plan.arrays), arrays_limit)
    ∷ (elements_in s.plan.arrays + element_count (grid_of rows cols brows bcols), elements_limit)
    ∷ (blocks_in s.plan.arrays + block_count (grid_of rows cols brows bcols), blocks_limit)
    ∷ [] in
    let within : All (λ (amount : ℕ × ℕ). amount.0 ≤ amount.1) amounts = within_limits amounts (λ passed is. clear.many passed (record { amounts = amounts; are = refl; passed = is })) in
    let few_arrays : suc (length s.plan.arrays) ≤ arrays_limit = within 0 (0, 0) (omega arith) in
    let few_elements : elements_in s.plan.arrays + element_count (grid_of rows cols brows bcols) ≤ elements_limit = within 1 (0, 0) (omega arith) in
    let few_blocks : blocks_in s.plan.arrays + block_count (grid_of rows cols brows bcols) ≤ blocks_limit = within 2 (0, 0) (omega arith) in
    record {
      behind = record {
        grid = record { rows = high.0; cols = wide.0; brows = block_high.0; bcols = block_wide.0; few = omega (arith, few_elements) };
        first_block = refl;
        first_element = refl;
      };
      edges = record { rows = high; cols = wide; brows = block_high; bcols = block_wide };
      arrays = few_arrays;
      elements = few_elements;
      blocks = few_blocks;
      fits =
          let row : ArrayRow = next_array s.plan (grid_of rows cols brows bcols) fill in
          λ k d lt. ltb-false _ _ (not_found (is_too_large s.plan) _ (range_with_len 0 (block_count row.grid)) (λ block found. clear.block _ _ (record { block = block; first = found; needed_is = refl; limit_is = refl })) k d lt);
    }

-- the Plan with the array, and with the statement too
abbrev pub with_array : ℕ → ArrayRow → Plan → Plan
with_array line row p = add_statement line (what.Put (suc (length p.arrays))) (add_array row p)

array_extends : (line : ℕ) (row : ArrayRow) (p : Plan) → Extends p (with_array line row p)
array_extends line row p =
    let more_arrays : length (p.arrays ++ row ∷ []) ≡ length p.arrays + 1 = length-append p.arrays (row ∷ []) in
    let more_blocks : length (p.blocks ++ blocks_of_array (length p.spaces) (suc (length p.arrays)) row) ≡ length p.blocks + length (blocks_of_array (length p.spaces) (suc (length p.arrays)) row) = length-append p.blocks _ in
    record {
      spaces = refl;
      procs = refl;
      arrays = omega (arith, more_arrays);
      blocks = omega (arith, more_blocks);
      tasks = omega arith;
      regions = more_regions p.statements (row_on line (what.Put (suc (length p.arrays))));
      array = λ i number. numbered_kept no_array p.arrays (row ∷ []) i number;
      block = λ i number. numbered_kept (record { array = 0; home = 0; size = 0 }) p.blocks (blocks_of_array (length p.spaces) (suc (length p.arrays)) row) i number;
      task = λ i number. refl;
      region = λ i number. refl;
    }

module _ (n : ℕ) (s : Above) (row : ArrayRow) (name : List ℕ) (sound : IsSound n s) (ready : IsReady s) (closed : s.opened ≡ None) (next : IsNext s.plan row) (free : s.live name ≡ None) where
  abbrev fresh : ℕ
  fresh = suc (length s.plan.arrays)

  abbrev statement : StatementRow
  statement = row_on (suc n) (what.Put fresh)

  abbrev after : Above
  after = record { plan = with_array (suc n) row s.plan; live = renamed name (Some fresh) s.live; opened = s.opened; settled = s.settled }

  abbrev new_blocks : List BlockRow
  new_blocks = blocks_of_array (length s.plan.spaces) fresh row

  extends : Extends s.plan after.plan
  extends = array_extends (suc n) row s.plan

  fresh_number : IsNumberIn after.plan.arrays fresh
  fresh_number = let more : length (s.plan.arrays ++ row ∷ []) ≡ length s.plan.arrays + 1 = length-append s.plan.arrays (row ∷ []) in (omega arith, omega (arith, more))

  -- the rows of the new blocks
  new_named : All (λ (b : BlockRow). IsNumberIn after.plan.arrays b.array × IsNumberIn s.plan.spaces b.home) new_blocks
  new_named = All-map (λ (b : BlockRow). IsNumberIn after.plan.arrays b.array × IsNumberIn s.plan.spaces b.home) _ (range_with_len 0 (block_count row.grid))
      (λ k d lt. (fresh_number, home_number (row.first_block + get_or (range_with_len 0 (block_count row.grid)) k d)))
    where
      home_number : (block : ℕ) → IsNumberIn s.plan.spaces (first_home (length s.plan.spaces) block)
      home_number block = (omega arith, omega (arith, ready.spaces))

  new_fits : All (FitsHomes after.plan) new_blocks
  new_fits = All-map (FitsHomes after.plan) _ (range_with_len 0 (block_count row.grid)) (λ k d lt. fits_new (get_or (range_with_len 0 (block_count row.grid)) k d) (next.fits k d lt))
    where
      fits_new : (i : ℕ) → 16 * block_size row.grid i ≤ (space_row s.plan (first_home (length s.plan.spaces) (row.first_block + i))).limit → FitsHomes after.plan (record { array = fresh; home = first_home (length s.plan.spaces) (row.first_block + i); size = block_size row.grid i })
      fits_new i fits = record {
        first = fits;
        moved = subst (λ (spaces : List ℕ). All (λ space. 16 * block_size row.grid i ≤ (space_row s.plan space).limit) spaces) (sym (moves_new s.plan sound.names_rows.statements (suc n))) (λ k d lt. absurd (omega arith));
      }

  few_touches : touches_in after.plan ≤ touches_limit
  few_touches = omega (arith, touches_push s.plan after.plan statement extends refl sound.names_rows.statements, sound.limits.touches)

  array_names : AreSoundNames after
  array_names = record {
    live = λ other array is. ⊎_elim
        (λ (same : other ≡ name).
        let this : Some fresh ≡ Some array = sym (renamed_here name (Some fresh) s.live other same) ∙ is in
        let here : fresh ≡ array = cc in
        subst (λ (a : ℕ). IsNumberIn after.plan.arrays a × IsLive after.plan.statements a) here (fresh_number, live_new s.plan sound.names_rows.statements (suc n)))
        (λ (differs : other ≢ name).
        let was : s.live other ≡ Some array = sym (renamed_other name (Some fresh) s.live other differs) ∙ is in
        (IsNumberIn_more s.plan.arrays (row ∷ []) array (sound.names.live other array was).0, live_push s.plan.statements statement array (sound.names.live other array was).1 (λ e. absurd (cc))))
        (same_name other name);
    names = λ array number. ⊎_elim
        (λ (here : array ≡ fresh).
        rw here (names_added s after statement name refl fresh (λ other. refl) free (eq-eqb fresh fresh refl) refl (no_names s.plan s refl sound.names sound.names_rows.statements)))
        (λ (other : array ≢ fresh).
        let more : length (s.plan.arrays ++ row ∷ []) ≡ length s.plan.arrays + 1 = length-append s.plan.arrays (row ∷ []) in
        let old : IsNumberIn s.plan.arrays array = (number.0, omega (arith, number.1, more, other)) in
        names_apart s after statement name refl array (Some fresh) (λ another. refl) (λ is. absurd (cc)) (λ is. let same : array ≡ fresh = cc in other same) (ne_eqb fresh array (λ same. other (sym same))) refl (sound.names.names array old))
        (cases_eq array fresh);
  }

  pub array_sound : IsSound (suc n) after
  array_sound = record {
    machine = ready_machine after (record { settled = ready.settled; spaces = ready.spaces; procs = ready.procs });
    names_rows = record {
      procs = sound.names_rows.procs;
      blocks = All-append (λ (b : BlockRow). IsNumberIn after.plan.arrays b.array × IsNumberIn s.plan.spaces b.home) s.plan.blocks new_blocks
          (λ k d lt. (IsNumberIn_more s.plan.arrays (row ∷ []) (get_or s.plan.blocks k d).array (sound.names_rows.blocks k d lt).0, (sound.names_rows.blocks k d lt).1)) new_named;
      tasks = λ k d lt. task_names_kept s.plan after.plan extends (get_or s.plan.tasks k d) (sound.names_rows.tasks k d lt);
      statements = rows_named s.plan after.plan statement extends refl sound.names_rows.statements fresh_number;
    };
    layout = record {
      arrays = stands_more s.plan.arrays row sound.layout.arrays next.behind;
      blocks = ap (λ (bs : List BlockRow). bs ++ new_blocks) sound.layout.blocks ∙ blocks_more s.plan.arrays row (length s.plan.spaces);
    };
    tasks = λ t number. task_kept s.plan after.plan extends t number (All_numbered (TaskNamesRows s.plan) no_task s.plan.tasks t sound.names_rows.tasks number) (sound.tasks t number);
    homes = All-append (FitsHomes after.plan) s.plan.blocks new_blocks
        (λ k d lt. fits_push s.plan after.plan statement (get_or s.plan.blocks k d) refl refl (sound.homes k d lt) (λ space is. absurd (cc)))
        new_fits;
    limits = record {
      each_space = sound.limits.each_space;
      each_proc = sound.limits.each_proc;
      each_array = All-push HasSmallEdges s.plan.arrays row sound.limits.each_array next.edges;
      each_statement = All-push (λ (r : StatementRow). HasShortName r.what) s.plan.statements statement sound.limits.each_statement tt;
      spaces = sound.limits.spaces;
      procs = sound.limits.procs;
      arrays = omega (arith, length-append s.plan.arrays (row ∷ []), next.arrays);
      elements = omega (arith, sum_by_push (λ (a : ArrayRow). element_count a.grid) s.plan.arrays row, next.elements);
      blocks = omega (arith, sum_by_push (λ (a : ArrayRow). block_count a.grid) s.plan.arrays row, next.blocks);
      each_region = λ region. record { tasks = (sound.limits.each_region region).tasks; elements = (sound.limits.each_region region).elements };
      touches = few_touches;
    };
    regions = record {
      tasks = sound.regions.tasks;
      rows = rw (regions_push s.plan.statements statement refl) sound.regions.rows;
    };
    lives = lives_push s.plan after.plan statement extends refl sound.lives sound.names_rows.statements
        (filter_map-append (λ (r : StatementRow). array_put r.what) s.plan.statements (statement ∷ []) ∙ ap (λ (xs : List ℕ). xs ++ fresh ∷ []) sound.lives.puts ∙ sym (range_more s.plan.arrays row))
        (record { live = λ k d lt. absurd (omega arith); last = tt });
    names = array_names;
    region = no_tasks_region after (ap open_tasks_of closed) few_touches;
    line = line_push n s after (what.Put fresh) sound.line refl (omega (arith, sound.line.tasks));
  }

pub array_enters : (n : ℕ) (s : Above) (name : List ℕ) (rows cols brows bcols : ℤ) (fill : Fill) → IsSound n s → s.settled ≡ true → Clear (suc n) s (Array name rows cols brows bcols fill) → IsSound (suc n) (with_name name (Some (suc (length s.plan.arrays))) (with_plan (add_statement (suc n) (what.Put (suc (length s.plan.arrays))) (add_array (next_array s.plan (grid_of rows cols brows bcols) fill) s.plan)) s))
array_enters n s name rows cols brows bcols fill sound settled clear =
    array_sound n s (next_array s.plan (grid_of rows cols brows bcols) fill) name sound (ready_for n (suc n) s (Array name rows cols brows bcols fill) sound settled refl clear) (closed_for s.opened false refl clear.place) (next_for (suc n) s name rows cols brows bcols fill clear) (unnamed (s.live name) clear.taken)
