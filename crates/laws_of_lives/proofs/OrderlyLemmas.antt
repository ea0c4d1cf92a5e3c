-- A well-formed Plan asks for its entries in order: a block is put before a task of a region touches it, and only once.
use Rattle.std.proofs.Common.{◌≡◌, ◌≢◌, ◌⊎◌, ℕ, zero, suc, ◌+◌, ◌-◌, ◌<◌, ◌≤◌, Bool, true, false, ◌&&◌, eqb, List, [], ◌∷◌, ◌++◌, length, get_or, take, drop, Option, Some, None, refl, ap, sym, ◌∙◌, subst, inl, inr, ⊎_elim, arith, append-nil, length-append, take-suc, take-add, take-append-drop, drop-cons}
use Rattle.std.specs.Prelude.{Any, Contains}
use Rattle.std.specs.List.{cons_option, flat_map, list_any, range_with_len}
use Rattle.std.proofs.Math.Seq.{get_or-append_seam}
use Rattle.std.proofs.Math.ListN.{get_or-append}
use Rattle.std.proofs.lemmas.Bool.{and_parts, eq-eqb, eqb-true, false_from_ne_true, or_cases, or_left}
use Rattle.std.proofs.lemmas.Bool.Decides.{eqb_tells}
use Rattle.std.proofs.lemmas.List.{get_or_default}
use Rattle.std.proofs.lemmas.List.Elements.{All-contains, All-get_or, Contains-append_cases, Contains-append_left, Contains-append_right, filter_map-append}
use Rattle.std.proofs.lemmas.List.Folds.{Any-from_list_any}
use Rattle.std.proofs.lemmas.List.FromFn.{get_or-range_with_len, length-range_with_len}
use Rattle.std.proofs.lemmas.List.Quantifiers.{Any-push}
use Rattle.dd_views.specs.IndexList.{index_list}
use Rattle.dd_views.proofs.ListsLemmas.{in_range, range_has}
use Rattle.dd_blocks.specs.declared.access_row.AccessRow.{AccessRow}
use Rattle.dd_blocks.specs.declared.plan.Plan.{Plan}
use Rattle.dd_blocks.specs.declared.statement_row.StatementRow.{StatementRow}
use Rattle.dd_blocks.specs.declared.task_row.TaskRow.{TaskRow}
use Rattle.dd_blocks.specs.declared.what.What.{What}
use Rattle.dd_blocks.specs.declared.what.What.TheVariants.{Put as Array, Print, Sum, Moved, Same, Drop, MoveTo, Region}
use Rattle.dd_blocks.specs.Charges.{Touches, block_with}
use Rattle.dd_blocks.specs.Elements.{writes as writes_mode}
use Rattle.dd_blocks.specs.Grids.{block_count, block_of, element_count}
use Rattle.dd_blocks.specs.Layout.{IsLaidOut}
use Rattle.dd_blocks.specs.Lives.{IsLive, array_put, arrays_put, arrays_used, tasks_of}
use Rattle.dd_blocks.specs.Numbered.{IsNumberIn, array_row, block_row, no_task, task_row}
use Rattle.dd_blocks.specs.Tasks.{IsShown, shape_in}
use Rattle.dd_blocks.specs.WellFormed.{IsWellFormed, StatementNamesRows}
use Rattle.dd_blocks.proofs.GridLemmas.{block_within}
use Rattle.dd_blocks.specs.Elements.{has}
use Rattle.dd_machine.specs.declared.entry.Entry.{Entry}
use Rattle.dd_machine.specs.declared.event.Event.TheVariants.{Put, Begin, Close}
use Rattle.dd_machine.specs.Made.{is_live, was_begun, was_closed}
use Rattle.dd_machine.specs.Orderly.{ComesNext, IsOrderly}
use Rattle.dd_machine.specs.Owed.{blocks_of, entries_from, entries_of, events_of, made, next_event, one_more}
use Rattle.dd_machine.specs.States.{Progress}
use Rattle.dd_machine.specs.Words.{IsOf, element, rows, size, statement, touches, writes}
use Rattle.dd_machine.proofs.ProgressLemmas.{next_at, no_entry, row_more}
use Rattle.laws_of_lives.proofs.EventsLemmas.{begun_append, begun_row, keeps_live, live_row, lives, put_says, puts_live, region_entries}
use Rattle.laws_of_lives.proofs.RegionsLemmas.{begun_up_of, closed_below_of, unbegun_of, unclosed_of}
use Rattle.laws_of_lives.proofs.RowsLemmas.{begin_first, begun_rows, row_is}
use Rattle.dd_blocks.proofs.LayoutLemmas.{grid_stands, has_block}
use Rattle.dd_blocks.proofs.NumberedLemmas.{numbered-get, task_names_rows, task_within}
use Rattle.dd_lists.proofs.ListsLemmas.{Contains-filter, number_in}
use Rattle.dd_views.proofs.WithinLemmas.{element_within}

-- ---- lists

contains_flat : {X Y : Type 0} (f : X → List Y) (xs : List X) (x : X) (y : Y) → Contains xs x → Contains (f x) y → Contains (flat_map f xs) y
contains_flat f [] x y here there = absurd (omega (arith, here.1))
contains_flat f (z ∷ xs) x y (zero, lt, is) there = Contains-append_left (f z) (flat_map f xs) y (subst (λ w. Contains (f w) y) (sym is) there)
contains_flat f (z ∷ xs) x y (suc k, lt, is) there = Contains-append_right (f z) (flat_map f xs) y (contains_flat f xs x y (k, omega (arith, lt), is) there)

-- ---- rows

-- the arrays of which a row speaks are live above it
live_above : (plan : Plan) → IsWellFormed plan → (k a : ℕ) → k < rows plan → Contains (arrays_used plan (statement plan (suc k)).what) a → IsLive (take k plan.statements) a
live_above plan well k a lt used = All-contains (IsLive (take k plan.statements)) (arrays_used plan (statement plan (suc k)).what) a ((well.lives.stand k (record { line = 0; what = Moved }) lt).live) used

put_or_not : (w : What) (a : ℕ) → (w ≡ Array a) ⊎ (array_put w ≢ Some a)
put_or_not (Array b) a = ⊎_elim
    (λ (e : (eqb b a ≡ true) × (b ≡ a)). inl (ap Array e.1))
    (λ (e : (eqb b a ≡ false) × (b ≢ a)). inr (λ same. e.1 (let h : Some b ≡ Some a = same in cc)))
    (eqb_tells b a)
put_or_not (Print b) a = inr (λ same. cc)
put_or_not (Sum b name) a = inr (λ same. cc)
put_or_not Moved a = inr (λ same. cc)
put_or_not (Same b) a = inr (λ same. cc)
put_or_not (Drop b last) a = inr (λ same. cc)
put_or_not (MoveTo b s) a = inr (λ same. cc)
put_or_not (Region r) a = inr (λ same. cc)

in_option : (o : Option ℕ) (a : ℕ) → Contains (cons_option o []) a → o ≡ Some a
in_option None a here = absurd (omega (arith, here.1))
in_option (Some b) a (zero, lt, is) = ap Some is
in_option (Some b) a (suc k, lt, is) = absurd (omega (arith, lt))

any_left : (P : StatementRow → Type 0) (xs ys : List StatementRow) → Any P xs → Any P (xs ++ ys)
any_left P xs ys any =
    let here = Contains-append_left xs ys any.1 (any.0, any.2, any.3) in
    (here.0, any.1, here.1, here.2, any.4)

-- an array that is live below a row that doesn't make it is so above it
live_before : (xs : List StatementRow) (row : StatementRow) (a : ℕ) → IsLive (xs ++ row ∷ []) a → array_put row.what ≢ Some a → IsLive xs a
live_before xs row a live ne = record {
  made = ⊎_elim
      (λ (old : Contains (arrays_put xs) a). old)
      (λ (new : Contains (cons_option (array_put row.what) []) a). absurd (ne (in_option (array_put row.what) a new)))
      (Contains-append_cases (arrays_put xs) (cons_option (array_put row.what) []) a (subst (λ (ys : List ℕ). Contains ys a) (filter_map-append (λ (r : StatementRow). array_put r.what) xs (row ∷ [])) live.made));
  kept = λ any. live.kept (any_left (λ (r : StatementRow). r.what ≡ Drop a true) xs (row ∷ []) any);
}

-- the array of a block
pub array_of : (plan : Plan) → IsLaidOut plan → (a b : ℕ) → IsNumberIn plan.arrays a → Contains (blocks_of plan a) b → (block_row plan b).array ≡ a
array_of plan laid a b within here =
    let first = (array_row plan a).first_block in
    let r = in_range first (block_count (array_row plan a).grid) b here in
    let e : first + (b - first) ≡ b = omega (arith, r.0) in
    let lt : b - first < block_count (array_row plan a).grid = omega (arith, r.0, r.1) in
    subst (λ (x : ℕ). (block_row plan x).array ≡ a) e (has_block plan laid a (b - first) within lt).array

-- the blocks of an array that is live after some rows are live after their entries
pub live_upto : (plan : Plan) → IsWellFormed plan → (a b : ℕ) → IsNumberIn plan.arrays a → Contains (blocks_of plan a) b
    → (i : ℕ) → i ≤ rows plan → IsLive (take i plan.statements) a → is_live (entries_from plan 1 i) b ≡ true
live_upto plan well a b within here zero le live = absurd (omega (arith, live.made.1))
live_upto plan well a b within here (suc i) le live =
    let none : StatementRow = record { line = 0; what = Moved } in
    let row = get_or plan.statements i none in
    let split : take (suc i) plan.statements ≡ take i plan.statements ++ row ∷ [] = take-suc plan.statements i none (omega (arith, le)) in
    let live' : IsLive (take i plan.statements ++ row ∷ []) a = subst (λ (xs : List StatementRow). IsLive xs a) split live in
    let now : is_live (entries_from plan 1 (suc i)) b ≡ lives b (is_live (entries_from plan 1 i) b) (events_of plan (suc i) row.what) =
    ap (λ (es : List Entry). is_live es b) (sym (row_more plan 1 i)) ∙ ap (λ (n : ℕ). is_live (entries_from plan 1 i ++ entries_of plan n) b) (let e : 1 + i ≡ suc i = omega arith in e) ∙ live_row plan (suc i) b (entries_from plan 1 i) in
    now ∙ ⊎_elim
    (λ (put : row.what ≡ Array a).
    let r = in_range (array_row plan a).first_block (block_count (array_row plan a).grid) b here in
    ap (λ (w : What). lives b (is_live (entries_from plan 1 i) b) (events_of plan (suc i) w)) put
    ∙ puts_live plan (suc i) a b (is_live (entries_from plan 1 i) b) r.0 (omega (arith, r.1, length-range_with_len (array_row plan a).first_block (block_count (array_row plan a).grid))))
    (λ (ne : array_put row.what ≢ Some a).
    ap (λ (l : Bool). lives b l (events_of plan (suc i) row.what)) (live_upto plan well a b within here i (omega (arith, le)) (live_before (take i plan.statements) row a live' ne))
    ∙ keeps_live plan (suc i) row.what b (λ c is has.
    let names : StatementNamesRows plan row.what = All-get_or (λ (r : StatementRow). StatementNamesRows plan r.what) plan.statements i none (omega (arith, le)) well.names.statements in
    let c_is : IsNumberIn plan.arrays c = subst (StatementNamesRows plan) is names in
    let same : c ≡ a = sym (array_of plan well.layout c b c_is has) ∙ array_of plan well.layout a b within here in
    live'.kept (Any-push (λ (r : StatementRow). r.what ≡ Drop a true) (take i plan.statements) row (is ∙ ap (λ (x : ℕ). Drop x true) same))))
    (put_or_not row.what a)

-- ---- tasks

-- an array that a task of a region accesses is one of which the region's row speaks
used_in : (plan : Plan) (r t : ℕ) (access : AccessRow) → IsOf plan r t → Contains (task_row plan t).accesses access → Contains (arrays_used plan (Region r)) access.view.array
used_in plan r t access of has =
    let row = task_row plan t in
    let e : row ≡ get_or plan.tasks (t - 1) no_task = numbered-get no_task plan.tasks t of.0.0 in
    let here : Contains plan.tasks row = (t - 1, omega (arith, of.0.0, of.0.1), task_at plan.tasks (t - 1) row no_task (omega (arith, of.0.0, of.0.1)) e) in
    contains_flat (λ (u : TaskRow). flat_map (λ (a : AccessRow). a.view.array ∷ []) u.accesses) (tasks_of plan r) row access.view.array
    (Contains-filter (λ (u : TaskRow). eqb u.region r) plan.tasks row here (eq-eqb row.region r of.1))
    (contains_flat (λ (a : AccessRow). a.view.array ∷ []) row.accesses access access.view.array has (0, omega arith, refl))
  where
    task_at : (xs : List TaskRow) (i : ℕ) (x d : TaskRow) → i < length xs → x ≡ get_or xs i d → get_or xs i x ≡ x
    task_at xs i x d lt e = get_or_default xs i x d lt ∙ sym e

-- a touched block is one of an array that the task accesses
pub record IsTouched (plan : Plan) (r t b : ℕ) : Type 0 where
  pub array : ℕ
  pub within : IsNumberIn plan.arrays array
  pub block : Contains (blocks_of plan array) b
  pub used : Contains (arrays_used plan (Region r)) array

pub touched_block : (plan : Plan) → IsWellFormed plan → (r t b : ℕ) → IsOf plan r t → touches plan t b ≡ true → IsTouched plan r t b
touched_block plan well r t b of touched =
    let task = well.tasks t of.0 in
    let touch : Touches plan (task_row plan t) b = ((task.blocks).exact b).0 (number_in (task_row plan t).blocks b touched) in
    let pos = touch.1 in
    let any = touch.2 in
    let access : AccessRow = any.1 in
    let here : Contains (task_row plan t).accesses access = (any.0, any.2, any.3) in
    let same : access.view.array ≡ touch.0 = any.4.0 in
    let names = task_names_rows plan well t of.0 in
    let within : IsNumberIn plan.arrays access.view.array = All-contains (λ (a : AccessRow). IsNumberIn plan.arrays a.view.array) (task_row plan t).accesses access names.accesses here in
    let shown = All-contains (λ (a : AccessRow). IsShown (array_row plan a.view.array) a.view) (task_row plan t).accesses access task.views here in
    let inside : pos < element_count (array_row plan access.view.array).grid = element_within (shape_in (array_row plan access.view.array)) access.view pos shown.view any.4.1 in
    let few : block_of (array_row plan access.view.array).grid pos < block_count (array_row plan access.view.array).grid = block_within (array_row plan access.view.array).grid pos (grid_stands plan well.layout access.view.array within) inside in
    let is : (array_row plan access.view.array).first_block + block_of (array_row plan access.view.array).grid pos ≡ b = ap (λ (x : ℕ). block_with plan x pos) same ∙ touch.3 in
    record {
      array = access.view.array;
      within = within;
      block = range_has (array_row plan access.view.array).first_block (block_count (array_row plan access.view.array).grid) b (omega (arith, is)) (omega (arith, is, few));
      used = used_in plan r t access of here;
    }

-- ---- the order

touched_of : (plan : Plan) → IsWellFormed plan → (p : Progress) (r t b : ℕ) → ComesNext plan p (Begin r) → IsOf plan r t → touches plan t b ≡ true → is_live (made plan p) b ≡ true
touched_of plan well p r t b next of touched =
    let n = next_at plan p (Begin r) next in
    let first = begin_first plan p r n in
    let k = row_is plan n.row (λ moved. let h : Moved ≡ Region r = sym moved ∙ first.1 in cc) in
    let what : (statement plan (suc k.0)).what ≡ Region r = subst (λ (x : ℕ). (statement plan x).what ≡ Region r) k.1 first.1 in
    let is = touched_block plan well r t b of touched in
    let live : IsLive (take k.0 plan.statements) is.array = live_above plan well k.0 is.array k.2 (subst (λ (w : What). Contains (arrays_used plan w) is.array) (sym what) is.used) in
    let less : n.row - 1 ≡ k.0 = omega (arith, k.1) in
    let made_is : made plan p ≡ entries_from plan 1 k.0 =
    n.made_is ∙ ap (λ (i : ℕ). entries_from plan 1 (n.row - 1) ++ take i (entries_of plan n.row)) first.0 ∙ append-nil (entries_from plan 1 (n.row - 1)) ∙ ap (entries_from plan 1) less in
    ap (λ (es : List Entry). is_live es b) made_is ∙ live_upto plan well is.array b is.within is.block k.0 (omega (arith, k.2)) live

closes_of : (plan : Plan) (p : Progress) (r : ℕ) → ComesNext plan p (Begin r) → ComesNext plan (one_more plan p) (Close r)
closes_of plan p r next =
    let n = next_at plan p (Begin r) next in
    let first = begin_first plan p r n in
    ap next_event (n.then_is ∙ ap (λ (i : ℕ). drop (suc i) (entries_of plan n.row) ++ entries_from plan (suc n.row) (rows plan - n.row)) first.0
    ∙ ap (λ (es : List Entry). drop 1 es ++ entries_from plan (suc n.row) (rows plan - n.row)) (region_entries plan n.row r first.1))

-- an array is made once
put_once : (xs : List StatementRow) (k n a count : ℕ) (d : StatementRow) → arrays_put xs ≡ range_with_len 1 count → k ≤ n → n < length xs → Contains (arrays_put (take k xs)) a → (get_or xs n d).what ≡ Array a → ⊥
put_once xs k n a count d all le lt has what =
    let m : n ≡ k + (n - k) = omega (arith, le) in
    let more : take n xs ≡ take k xs ++ take (n - k) (drop k xs) = ap (λ (i : ℕ). take i xs) m ∙ take-add k (n - k) xs in
    let f : StatementRow → Option ℕ = λ r. array_put r.what in
    let old : Contains (arrays_put (take n xs)) a = subst (λ (ys : List StatementRow). Contains (arrays_put ys) a) (sym more)
    (subst (λ (ys : List ℕ). Contains ys a) (sym (filter_map-append f (take k xs) (take (n - k) (drop k xs)))) (Contains-append_left (arrays_put (take k xs)) (arrays_put (take (n - k) (drop k xs))) a has)) in
    let before = arrays_put (take n xs) in
    let behind = arrays_put (drop (suc n) xs) in
    let split : xs ≡ take n xs ++ (get_or xs n d ∷ drop (suc n) xs) = sym (take-append-drop n xs) ∙ ap (λ (ys : List StatementRow). take n xs ++ ys) (drop-cons xs n d lt) in
    let put : arrays_put xs ≡ before ++ a ∷ behind = ap arrays_put split ∙ filter_map-append f (take n xs) (get_or xs n d ∷ drop (suc n) xs) ∙ ap (λ (w : What). before ++ cons_option (array_put w) behind) what in
    let numbers : before ++ a ∷ behind ≡ range_with_len 1 count = sym put ∙ all in
    let many : length before + suc (length behind) ≡ count = sym (length-append before (a ∷ behind)) ∙ ap length numbers ∙ length-range_with_len 1 count in
    let low : old.0 < length before = old.1 in
    let at_old : 1 + old.0 ≡ a = sym (get_or-range_with_len 1 count old.0 a (omega (arith, low, many))) ∙ ap (λ (ys : List ℕ). get_or ys old.0 a) (sym numbers) ∙ get_or-append before (a ∷ behind) a old.0 low ∙ old.2 in
    let at_new : 1 + length before ≡ a = sym (get_or-range_with_len 1 count (length before) a (omega (arith, many))) ∙ ap (λ (ys : List ℕ). get_or ys (length before) a) (sym numbers) ∙ get_or-append_seam before a behind a in
    omega (arith, at_old, at_new, low)

unput_of : (plan : Plan) → IsWellFormed plan → (p : Progress) (b t i : ℕ) → ComesNext plan p (Put b) → i < size plan b → was_begun (made plan p) (task_row plan t).region ≡ true → writes plan t (element plan b i) ≡ true → ⊥
unfolding writes element
unput_of plan well p b t i next lt begun wrote =
    let r = (task_row plan t).region in
    let n = next_at plan p (Put b) next in
    let put = put_says plan n.row n.at b no_entry n.within n.is in
    let a = put.0 in
    let k = row_is plan n.row (λ moved. let h : Moved ≡ Array a = sym moved ∙ put.1 in cc) in
    let what : (statement plan (suc k.0)).what ≡ Array a = subst (λ (x : ℕ). (statement plan x).what ≡ Array a) k.1 put.1 in
    let less : n.row - 1 ≡ k.0 = omega (arith, k.1) in
    let a_is : IsNumberIn plan.arrays a = subst (StatementNamesRows plan) what (All-get_or (λ (x : StatementRow). StatementNamesRows plan x.what) plan.statements k.0 (record { line = 0; what = Moved }) k.2 well.names.statements) in
    let of : IsOf plan r t = (task_within plan (λ (x : AccessRow). writes_mode x.mode && has x (element plan b i)) t wrote, refl) in
    let any = Any-from_list_any (λ (x : AccessRow). writes_mode x.mode && has x (element plan b i)) (task_row plan t).accesses wrote in
    let access : AccessRow = any.1 in
    let parts = and_parts (writes_mode access.mode) (has access (element plan b i)) any.4 in
    let in_array = (and_parts (eqb access.view.array (element plan b i).array) (list_any (λ x. eqb x (element plan b i).pos) (index_list access.view)) parts.1).0 in
    let same : access.view.array ≡ a = eqb-true access.view.array (element plan b i).array in_array ∙ array_of plan well.layout a b a_is put.2 in
    let used : Contains (arrays_used plan (Region r)) a = subst (Contains (arrays_used plan (Region r))) same (used_in plan r t access of (any.0, any.2, any.3)) in
    ⊎_elim
    (λ (above : was_begun (entries_from plan 1 (n.row - 1)) r ≡ true).
    let j = begun_rows plan r k.0 (ap (λ (x : ℕ). was_begun (entries_from plan 1 x) r) (sym less) ∙ above) in
    let live : IsLive (take j.0 plan.statements) a = live_above plan well j.0 a (omega (arith, j.1, k.2)) (subst (λ (w : What). Contains (arrays_used plan w) a) (sym j.2) used) in
    put_once plan.statements j.0 k.0 a (length plan.arrays) (record { line = 0; what = Moved }) well.lives.puts (omega (arith, j.1)) k.2 live.made what)
    (λ (here : was_begun (take n.at (entries_of plan n.row)) r ≡ true).
    let all : was_begun (entries_of plan n.row) r ≡ true =
    ap (λ (es : List Entry). was_begun es r) (sym (take-append-drop n.at (entries_of plan n.row))) ∙ begun_append (take n.at (entries_of plan n.row)) (drop n.at (entries_of plan n.row)) r
    ∙ or_left (was_begun (take n.at (entries_of plan n.row)) r) (was_begun (drop n.at (entries_of plan n.row)) r) here in
    let h : Array a ≡ Region r = sym put.1 ∙ begun_row plan n.row r all in
    cc)
    (or_cases (was_begun (entries_from plan 1 (n.row - 1)) r) (was_begun (take n.at (entries_of plan n.row)) r)
    (sym (begun_append (entries_from plan 1 (n.row - 1)) (take n.at (entries_of plan n.row)) r) ∙ ap (λ (es : List Entry). was_begun es r) (sym n.made_is) ∙ begun))

pub orderly : (plan : Plan) → IsWellFormed plan → IsOrderly plan
orderly plan well = record {
  unput = λ p b t i next lt begun. false_from_ne_true (writes plan t (element plan b i)) (unput_of plan well p b t i next lt begun);
  touched = touched_of plan well;
  closes = closes_of plan;
  unbegun = λ p r next. false_from_ne_true (was_begun (made plan p) r) (unbegun_of plan well p r next);
  unclosed = λ p r next. false_from_ne_true (was_closed (made plan p) r) (unclosed_of plan well p r next);
  begun_up = begun_up_of plan well;
  closed_below = closed_below_of plan well;
}
