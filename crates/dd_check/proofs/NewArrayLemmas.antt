-- A new array: its row, and the counts.
use Rattle.std.proofs.Common.{◌≡◌, ◌≢◌, ℕ, zero, suc, ◌+◌, ◌<◌, ◌≤◌, cond, nat_eq, List, [], ◌∷◌, ◌++◌, length, get_or, Some, refl, sym, ap, subst, ◌∙◌, ⊎_elim, arith}
use Rattle.std.specs.List.{sum_by, All}
use Rattle.std.specs.Option.{option_map}
use Rattle.std.specs.Str.{bytes_eq}
use Rattle.std.proofs.lemmas.Bool.{cases_eq, eq-eqb, ne_eqb}
use Rattle.std.proofs.lemmas.List.{get_or_append_left, length-append}
use Rattle.std.proofs.lemmas.List.Sums.{sum_by_push, sum_by-cons}
use Rattle.std.proofs.Math.Seq.{get_or-append_seam}
use Rattle.dd_blocks.specs.declared.array_row.ArrayRow.{ArrayRow}
use Rattle.dd_blocks.specs.declared.fill.Fill.{Fill}
use Rattle.dd_blocks.specs.declared.grid.Grid.{Grid}
use Rattle.dd_blocks.specs.declared.plan.Plan.{Plan}
use Rattle.dd_blocks.specs.declared.statement_row.StatementRow.{StatementRow}
use Rattle.dd_blocks.specs.declared.task_row.TaskRow.{TaskRow}
use Rattle.dd_blocks.specs.declared.what.What.{What}
use Rattle.dd_blocks.specs.declared.what.What.TheVariants.{Put, Print, Sum, Moved, Same, Drop, MoveTo, Region}
use Rattle.dd_blocks.specs.ArrayHomes.{AreMovedTo}
use Rattle.dd_blocks.specs.Grids.{block_count, element_count}
use Rattle.dd_blocks.specs.Layout.{elements_in}
use Rattle.dd_blocks.specs.Lives.{ends_name, gives_name, names_ended, names_given, regions_run}
use Rattle.dd_blocks.specs.Numbered.{IsNumberIn, no_array, numbered}
use Rattle.dd_blocks.specs.Touches.{blocks_of, touches_in, touches_of}
use Rattle.dd_blocks.specs.WellFormed.{NamesRows, StatementNamesRows}
use Rattle.dd_blocks.proofs.ArrayHomesLemmas.{moved_array}
use Rattle.dd_blocks.proofs.MovedSpacesLemmas.{have_arrays}
use Rattle.dd_check.specs.declared.draft.Draft.{Draft}
use Rattle.dd_check.specs.declared.names.Names.{Names}
use Rattle.dd_check.specs.Ahead.{CountsAhead, one_if}
use Rattle.dd_check.specs.Drafts.{Counts, IsSoundDraft, SumsOpen, above_of, region_of}
use Rattle.dd_check.specs.Effects.{add_array, add_statement, with_name, with_plan}
use Rattle.dd_check.specs.NewArray.{HasArray}
use Rattle.dd_check.specs.Lookup.{array_by}
use Rattle.dd_check.specs.Rows.{next_array}

-- sums of what is the same at each item
pub same_sum : {X : Type 0} (f g : X → ℕ) (xs : List X) → All (λ x. f x ≡ g x) xs → sum_by f xs ≡ sum_by g xs
same_sum f g [] each = refl
same_sum f g (x ∷ xs) each =
    let here : f x ≡ g x = each 0 x (omega arith) in
    let rest : sum_by f xs ≡ sum_by g xs = same_sum f g xs (λ k d low. each (suc k) d (omega (arith, low))) in
    sum_by-cons f x xs ∙ ap (λ n. n + sum_by f xs) here ∙ ap (λ n. g x + n) rest ∙ sym (sum_by-cons g x xs)

none_of : {X : Type 0} (f : X → ℕ) (xs : List X) → All (λ x. f x ≡ 0) xs → sum_by f xs ≡ 0
none_of f [] each = refl
none_of f (x ∷ xs) each =
    let here : f x ≡ 0 = each 0 x (omega arith) in
    let rest : sum_by f xs ≡ 0 = none_of f xs (λ k d low. each (suc k) d (omega (arith, low))) in
    omega (arith, sum_by-cons f x xs, here, rest)

not_number : (a m : ℕ) → (1 ≤ a) × (a ≤ m) → one_if (nat_eq a (m + 1)) ≡ 0
not_number a m within = ap one_if (ne_eqb a (m + 1) (λ same. omega (arith, same, within)))

module _ (p : Plan) where
  abbrev next : ℕ
  next = length p.arrays + 1

  gives_none : (what : What) → StatementNamesRows p what → one_if (gives_name next what) ≡ 0
  gives_none (Put a) h = not_number a (length p.arrays) h
  gives_none (Print a) h = refl
  gives_none (Sum a name) h = refl
  gives_none Moved h = refl
  gives_none (Same a) h = not_number a (length p.arrays) h
  gives_none (Drop a last) h = refl
  gives_none (MoveTo a space) h = refl
  gives_none (Region r) h = refl

  ends_none : (what : What) → StatementNamesRows p what → one_if (ends_name next what) ≡ 0
  ends_none (Put a) h = refl
  ends_none (Print a) h = refl
  ends_none (Sum a name) h = refl
  ends_none Moved h = refl
  ends_none (Same a) h = refl
  ends_none (Drop a last) h = not_number a (length p.arrays) h
  ends_none (MoveTo a space) h = refl
  ends_none (Region r) h = refl

  -- the rows so far say nothing of the array that comes next
  none_given : NamesRows p → names_given next p.statements ≡ 0
  none_given rows = none_of (λ (row : StatementRow). one_if (gives_name next row.what)) p.statements (λ k d low. gives_none _ (rows.statements k d low))

  none_ended : NamesRows p → names_ended next p.statements ≡ 0
  none_ended rows = none_of (λ (row : StatementRow). one_if (ends_name next row.what)) p.statements (λ k d low. ends_none _ (rows.statements k d low))

  module _ (row : ArrayRow) where
    kept_row : (a : ℕ) → IsNumberIn p.arrays a → numbered no_array (p.arrays ++ row ∷ []) a ≡ numbered no_array p.arrays a
    kept_row zero within = absurd (omega (arith, within.0))
    kept_row (suc i) within = get_or_append_left p.arrays (row ∷ []) no_array i (omega (arith, within.1))

    kept_blocks : (a : ℕ) → IsNumberIn p.arrays a → blocks_of (add_array row p) a ≡ blocks_of p a
    kept_blocks a within = ap (λ (r : ArrayRow). block_count r.grid) (kept_row a within)

    kept_touches : (what : What) → StatementNamesRows p what → touches_of (add_array row p) what ≡ touches_of p what
    kept_touches (Put a) h = refl
    kept_touches (Print a) h = kept_blocks a h
    kept_touches (Sum a name) h = kept_blocks a h
    kept_touches Moved h = refl
    kept_touches (Same a) h = refl
    kept_touches (Drop a last) h = refl
    kept_touches (MoveTo a space) h = kept_blocks a h.0
    kept_touches (Region r) h = refl

    pub touches_kept : NamesRows p → touches_in (add_array row p) ≡ touches_in p
    touches_kept rows =
        ap (λ n. sum_by (λ (t : TaskRow). length t.blocks) p.tasks + n)
        (same_sum (λ (r : StatementRow). touches_of (add_array row p) r.what) (λ (r : StatementRow). touches_of p r.what) p.statements (λ k d low. kept_touches _ (rows.statements k d low)))

-- the counts, with 1 behind them
module _ (d : Draft) (h : Counts d) (rows : NamesRows d.plan) where
  counted_name : (k : ℕ) → k < length d.plan.arrays + 1
      → names_ended (k + 1) d.plan.statements + 0 + get_or (d.counts.items ++ 1 ∷ []) k 0 ≡ names_given (k + 1) d.plan.statements + one_if (nat_eq (suc (length d.plan.arrays)) (k + 1))
  counted_name k low = ⊎_elim last before (cases_eq k (length d.plan.arrays))
    where
      last : k ≡ length d.plan.arrays → names_ended (k + 1) d.plan.statements + 0 + get_or (d.counts.items ++ 1 ∷ []) k 0 ≡ names_given (k + 1) d.plan.statements + one_if (nat_eq (suc (length d.plan.arrays)) (k + 1))
      last e =
          let seam : get_or (d.counts.items ++ 1 ∷ []) k 0 ≡ 1 = ap (λ i. get_or (d.counts.items ++ 1 ∷ []) i 0) (e ∙ sym h.each) ∙ get_or-append_seam d.counts.items 1 [] 0 in
          let ended : names_ended (k + 1) d.plan.statements ≡ 0 = ap (λ i. names_ended (i + 1) d.plan.statements) e ∙ none_ended d.plan rows in
          let given : names_given (k + 1) d.plan.statements ≡ 0 = ap (λ i. names_given (i + 1) d.plan.statements) e ∙ none_given d.plan rows in
          let one : one_if (nat_eq (suc (length d.plan.arrays)) (k + 1)) ≡ 1 = ap one_if (eq-eqb (suc (length d.plan.arrays)) (k + 1) (omega (arith, e))) in
          omega (arith, seam, ended, given, one)

      before : k ≢ length d.plan.arrays → names_ended (k + 1) d.plan.statements + 0 + get_or (d.counts.items ++ 1 ∷ []) k 0 ≡ names_given (k + 1) d.plan.statements + one_if (nat_eq (suc (length d.plan.arrays)) (k + 1))
      before e =
          let old : get_or (d.counts.items ++ 1 ∷ []) k 0 ≡ get_or d.counts.items k 0 = get_or_append_left d.counts.items (1 ∷ []) 0 k (omega (arith, h.each, low, e)) in
          let none : one_if (nat_eq (suc (length d.plan.arrays)) (k + 1)) ≡ 0 = ap one_if (ne_eqb (suc (length d.plan.arrays)) (k + 1) (λ same. e (omega (arith, same)))) in
          omega (arith, old, none, h.names k (omega (arith, low, e)))

-- the row that puts the array is counted already
pub put_ahead : (old new : Draft) (grid : Grid) (fill : Fill) (names : Names) → IsSoundDraft old → HasArray old grid fill new
    → CountsAhead (record new { names = names }) (Put (suc (length old.plan.arrays)))
put_ahead old new grid fill names sound has =
    let plan = add_array (next_array old.plan grid fill) old.plan in
    let one_more : length plan.arrays ≡ length old.plan.arrays + 1 = length-append old.plan.arrays _ in
    let counts = sound.counts in
    record {
      each = ap length has.counts ∙ length-append old.counts.items (1 ∷ []) ∙ ap (λ n. n + 1) counts.each ∙ sym one_more ∙ ap (λ (p : Plan). length p.arrays) (sym has.plan);
      names = subst (λ (p : Plan). (k : ℕ) → k < length p.arrays → names_ended (k + 1) p.statements + 0 + get_or new.counts.items k 0 ≡ names_given (k + 1) p.statements + one_if (nat_eq (suc (length old.plan.arrays)) (k + 1))) (sym has.plan)
          (λ k low. rw has.counts (counted_name old counts sound.above.names_rows k (omega (arith, low, one_more))));
      elements = has.elements ∙ ap (λ n. n + element_count grid) counts.elements ∙ sym (sum_by_push (λ (a : ArrayRow). element_count a.grid) old.plan.arrays _) ∙ ap (λ (p : Plan). elements_in p.arrays) (sym has.plan);
      regions = subst (λ (p : Plan). new.regions ≡ length (regions_run p.statements) + 0) (sym has.plan) (omega (arith, has.regions, counts.regions));
      touches = subst (λ (p : Plan). new.touches ≡ touches_in p + 0) (sym has.plan) (omega (arith, has.touches, counts.touches, touches_kept old.plan (next_array old.plan grid fill) sound.above.names_rows));
      opened = subst SumsOpen (sym has.opened) counts.opened;
      homes = subst (λ (p : Plan). AreMovedTo (length p.arrays) p.statements new.homes.items) (sym has.plan)
          (subst (λ (arrays : ℕ). AreMovedTo arrays old.plan.statements new.homes.items) (sym one_more)
          (subst (AreMovedTo (length old.plan.arrays + 1) old.plan.statements) (sym has.homes)
          (moved_array (length old.plan.arrays) old.plan.statements old.homes.items (have_arrays old.plan old.plan.statements sound.above.names_rows.statements) counts.homes)));
      array = tt;
    }

-- and what is left then
pub made : (old new : Draft) (grid : Grid) (fill : Fill) (line number : ℕ) (name : List ℕ) (names : Names) → HasArray old grid fill new → number ≡ suc (length old.plan.arrays)
    → ((other : List ℕ) → array_by names other ≡ cond (bytes_eq other name) (Some number) (array_by new.names other))
    → above_of (record new { plan = add_statement line (Put number) new.plan; names = names })
    ≡ with_name name (Some (suc (length old.plan.arrays))) (with_plan (add_statement line (Put (suc (length old.plan.arrays))) (add_array (next_array old.plan grid fill) old.plan)) (above_of old))
made old new grid fill line number name names has is renames = λ i. record {
  plan = add_statement line (Put (is i)) (has.plan i);
  live = λ other. (renames other ∙ ap (λ (n : ℕ). cond (bytes_eq other name) (Some n) (array_by new.names other)) is ∙ ap (λ (ns : Names). cond (bytes_eq other name) (Some (suc (length old.plan.arrays))) (array_by ns other)) has.names) i;
  opened = option_map region_of (has.opened i);
  settled = has.settled i;
}
