-- The numbers of elements among those of all arrays, and what a task writes there.
use Rattle.std.proofs.Common.{◌≡◌, ◌≢◌, ℕ, zero, suc, ◌+◌, ◌<◌, ◌≤◌, Bool, true, false, ◌&&◌, ◌||◌, cond, eqb, List, length, get_or, set, take, refl, ap, sym, ◌∙◌, ⊎_elim, arith}
use Rattle.std.specs.List.{All, list_any}
use Rattle.std.proofs.lemmas.Bool.{cases_Bool, cases_eq, cases_lt, eq-eqb, lt-ltb, ltb-true, ne_eqb, or_right}
use Rattle.std.proofs.lemmas.List.{get_or-set_other, get_or-set_same, get_or_past}
use Rattle.std.proofs.lemmas.List.Elements.{All-get_or}
use Rattle.dd_blocks.specs.declared.access_row.AccessRow.{AccessRow}
use Rattle.dd_blocks.specs.declared.array_row.ArrayRow.{ArrayRow}
use Rattle.dd_blocks.specs.declared.plan.Plan.{Plan}
use Rattle.dd_blocks.specs.Grids.{element_count}
use Rattle.dd_blocks.specs.Layout.{IsLaidOut, elements_in}
use Rattle.dd_blocks.specs.Numbered.{IsNumberIn, array_row, no_array, task_row}
use Rattle.dd_blocks.specs.Tasks.{IsShown, shape_in}
use Rattle.dd_blocks.specs.WellFormed.{IsWellFormed}
use Rattle.dd_blocks.specs.Elements.{Element, has, task_writes, writes as writes_mode}
use Rattle.dd_machine.specs.Words.{IsOneOf, tasks, writes}
use Rattle.dd_views.specs.IndexList.{index_list}
use Rattle.dd_blocks.proofs.LayoutLemmas.{elements_within}
use Rattle.dd_blocks.proofs.PlanElementsLemmas.{same_element}
use Rattle.dd_views.proofs.WithinLemmas.{positions_within}
use Rattle.dd_tables.specs.Currents.{current_of, is_element}
use Rattle.dd_blocks.specs.PlanElements.{number_of}
use Rattle.dd_lists.proofs.ListsLemmas.{list_any_same as any_agree}
use Rattle.dd_tables.proofs.ListsLemmas.{any_nowhere, any_take_more}
use Rattle.dd_tables.proofs.SmallLemmas.{accesses_named}

-- the access writes the element with the number
abbrev pub writes_at : Plan → ℕ → AccessRow → Bool
writes_at plan n a = writes_mode a.mode && list_any (λ pos. eqb ((array_row plan a.view.array).first_element + pos) n) (index_list a.view)

-- ---- one more element of a view

pub view_more : (first v n i : ℕ) (positions cur old : List ℕ) → i < length positions → first + get_or positions i 0 < length cur
    → get_or cur n 0 ≡ cond (list_any (λ pos. eqb (first + pos) n) (take i positions)) v (get_or old n 0)
    → get_or (set cur (first + get_or positions i 0) v) n 0 ≡ cond (list_any (λ pos. eqb (first + pos) n) (take (i + 1) positions)) v (get_or old n 0)
view_more first v n i positions cur old lt there is =
    let p : ℕ → Bool = λ pos. eqb (first + pos) n in
    let k = first + get_or positions i 0 in
    let more = any_take_more p positions i 0 lt in
    ⊎_elim
    (λ (e : k ≡ n).
    let on : list_any p (take (i + 1) positions) ≡ true = more ∙ or_right (list_any p (take i positions)) (eqb k n) (eq-eqb k n e) in
    ap (λ (m : ℕ). get_or (set cur k v) m 0) (sym e) ∙ get_or-set_same cur k v 0 there
    ∙ sym (ap (λ (t : Bool). cond t v (get_or old n 0)) on))
    (λ (ne : k ≡ n → ⊥).
    let off : list_any p (take (i + 1) positions) ≡ list_any p (take i positions) = more ∙ ap (λ (t : Bool). list_any p (take i positions) || t) (ne_eqb k n ne) ∙ or_false (list_any p (take i positions)) in
    get_or-set_other cur k n v 0 (λ f. ne (sym f)) ∙ is ∙ sym (ap (λ (t : Bool). cond t v (get_or old n 0)) off))
    (cases_eq k n)
  where
    or_false : (t : Bool) → (t || false) ≡ t
    or_false true = refl
    or_false false = refl

-- ---- one more access

cond_or : (a b : Bool) (x y : ℕ) → cond b x (cond a x y) ≡ cond (a || b) x y
cond_or true true x y = refl
cond_or true false x y = refl
cond_or false true x y = refl
cond_or false false x y = refl

pub access_more : (plan : Plan) (task n i now before old : ℕ) (accesses : List AccessRow) (d : AccessRow) → i < length accesses
    → writes_mode (get_or accesses i d).mode ≡ true
    → now ≡ cond (list_any (λ pos. eqb ((array_row plan (get_or accesses i d).view.array).first_element + pos) n) (index_list (get_or accesses i d).view)) task before
    → before ≡ cond (list_any (writes_at plan n) (take i accesses)) task old
    → now ≡ cond (list_any (writes_at plan n) (take (i + 1) accesses)) task old
access_more plan task n i now before old accesses d lt on is was =
    let a = get_or accesses i d in
    let here = list_any (λ pos. eqb ((array_row plan a.view.array).first_element + pos) n) (index_list a.view) in
    let all = list_any (writes_at plan n) (take i accesses) in
    is ∙ ap (cond here task) was ∙ cond_or all here task old
    ∙ ap (λ (t : Bool). cond (all || (t && here)) task old) (sym on)
    ∙ ap (λ (t : Bool). cond t task old) (sym (any_take_more (writes_at plan n) accesses i d lt))

pub access_none : (plan : Plan) (task n i before old : ℕ) (accesses : List AccessRow) (d : AccessRow) → i < length accesses
    → writes_mode (get_or accesses i d).mode ≡ false
    → before ≡ cond (list_any (writes_at plan n) (take i accesses)) task old
    → before ≡ cond (list_any (writes_at plan n) (take (i + 1) accesses)) task old
access_none plan task n i before old accesses d lt off was =
    let a = get_or accesses i d in
    let here = list_any (λ pos. eqb ((array_row plan a.view.array).first_element + pos) n) (index_list a.view) in
    let all = list_any (writes_at plan n) (take i accesses) in
    was ∙ ap (λ (t : Bool). cond t task old) (sym (or_false all) ∙ ap (λ (t : Bool). all || (t && here)) (sym off) ∙ sym (any_take_more (writes_at plan n) accesses i d lt))
  where
    or_false : (t : Bool) → (t || false) ≡ t
    or_false true = refl
    or_false false = refl

-- ---- the elements of different arrays have different numbers

apart : (plan : Plan) (a b p q : ℕ) → IsLaidOut plan → IsNumberIn plan.arrays a → IsNumberIn plan.arrays b → a ≢ b
    → p < element_count (array_row plan a).grid → q < element_count (array_row plan b).grid
    → (array_row plan a).first_element + p ≡ (array_row plan b).first_element + q → ⊥
apart plan a b p q laid a_is b_is ne p_in q_in same =
    let e : Element = record { array = a; pos = p } in
    let f : Element = record { array = b; pos = q } in
    ne (ap (λ (x : Element). x.array) (same_element plan laid e f (record { array = a_is; within = p_in }) (record { array = b_is; within = q_in }) same))

-- ---- what a task writes

eqb_add : (f p q : ℕ) → eqb (f + p) (f + q) ≡ eqb p q
eqb_add f p q = ⊎_elim
    (λ (e : p ≡ q). eq-eqb (f + p) (f + q) (ap (λ (k : ℕ). f + k) e) ∙ sym (eq-eqb p q e))
    (λ (ne : p ≡ q → ⊥). ne_eqb (f + p) (f + q) (λ h. ne (omega (arith, h))) ∙ sym (ne_eqb p q ne))
    (cases_eq p q)

-- an element is one of an array of the Plan
array_known : (plan : Plan) (e : Element) → is_element plan e ≡ true → IsNumberIn plan.arrays e.array
array_known plan e is = by e.array (ltb-true e.pos (element_count (array_row plan e.array).grid) is)
  where
    by : (n : ℕ) → e.pos < element_count (array_row plan n).grid → IsNumberIn plan.arrays n
    by zero lt = absurd (omega (arith, lt))
    by (suc n) lt = ⊎_elim
        (λ (h : n < length plan.arrays). (omega arith, h))
        (λ (h : length plan.arrays ≤ n). absurd (let none = ap (λ (a : ArrayRow). element_count a.grid) (get_or_past plan.arrays n no_array h) in omega (arith, lt, none)))
        (cases_lt n (length plan.arrays))

-- the positions of a view of an array are positions of it
positions_in : (plan : Plan) (a : AccessRow) → IsShown (array_row plan a.view.array) a.view → All (λ p. p < element_count (array_row plan a.view.array).grid) (index_list a.view)
positions_in plan a shown = positions_within (shape_in (array_row plan a.view.array)) a.view shown.view

same_access : (plan : Plan) (a : AccessRow) (e : Element) → IsLaidOut plan → IsNumberIn plan.arrays a.view.array → IsShown (array_row plan a.view.array) a.view → is_element plan e ≡ true
    → list_any (λ pos. eqb ((array_row plan a.view.array).first_element + pos) (number_of plan e)) (index_list a.view) ≡ has a e
same_access plan a e laid a_is shown is = ⊎_elim
    (λ (same : a.view.array ≡ e.array).
    let first = ap (λ (n : ℕ). (array_row plan n).first_element) same in
    any_agree (λ pos. eqb ((array_row plan a.view.array).first_element + pos) (number_of plan e)) (λ pos. eqb pos e.pos) (index_list a.view)
    (λ k d lt.
    let pos = get_or (index_list a.view) k d in
    ap (λ (f : ℕ). eqb (f + pos) (number_of plan e)) first ∙ eqb_add (array_row plan e.array).first_element pos e.pos)
    ∙ sym (ap (λ (t : Bool). t && list_any (λ p. eqb p e.pos) (index_list a.view)) (eq-eqb a.view.array e.array same)))
    (λ (ne : a.view.array ≡ e.array → ⊥).
    any_nowhere (λ pos. eqb ((array_row plan a.view.array).first_element + pos) (number_of plan e)) (index_list a.view)
    (λ k d lt.
    let pos = get_or (index_list a.view) k d in
    ne_eqb ((array_row plan a.view.array).first_element + pos) (number_of plan e)
    (apart plan a.view.array e.array pos e.pos laid a_is (array_known plan e is) ne (positions_in plan a shown k d lt) (ltb-true e.pos (element_count (array_row plan e.array).grid) is)))
    ∙ sym (ap (λ (t : Bool). t && list_any (λ p. eqb p e.pos) (index_list a.view)) (ne_eqb a.view.array e.array ne)))
    (cases_eq a.view.array e.array)

-- an access has only elements
no_access : (plan : Plan) (a : AccessRow) (e : Element) → IsShown (array_row plan a.view.array) a.view → is_element plan e ≡ false → has a e ≡ false
no_access plan a e shown out = ⊎_elim
    (λ (same : a.view.array ≡ e.array).
    any_nowhere_of (any_nowhere (λ p. eqb p e.pos) (index_list a.view)
    (λ k d lt. ne_eqb (get_or (index_list a.view) k d) e.pos (λ at.
    let inside = positions_in plan a shown k d lt in
    let grid = ap (λ (n : ℕ). element_count (array_row plan n).grid) same in
    let yes : is_element plan e ≡ true = lt-ltb e.pos (element_count (array_row plan e.array).grid) (omega (arith, inside, grid, at)) in
    let f : true ≡ false = sym yes ∙ out in
    cc))))
    (λ (ne : a.view.array ≡ e.array → ⊥). ap (λ (t : Bool). t && list_any (λ p. eqb p e.pos) (index_list a.view)) (ne_eqb a.view.array e.array ne))
    (cases_eq a.view.array e.array)
  where
    any_nowhere_of : list_any (λ p. eqb p e.pos) (index_list a.view) ≡ false → has a e ≡ false
    any_nowhere_of none = ap (λ (t : Bool). eqb a.view.array e.array && t) none ∙ by (eqb a.view.array e.array)
      where
        by : (t : Bool) → (t && false) ≡ false
        by true = refl
        by false = refl

-- the current versions once a task is done
pub current_written : (plan : Plan) (task : ℕ) (old new : List ℕ) → IsWellFormed plan → IsOneOf (tasks plan) task
    → ((n : ℕ) → get_or new n 0 ≡ cond (list_any (writes_at plan n) (task_row plan task).accesses) task (get_or old n 0))
    → (e : Element) → current_of plan new e ≡ cond (writes plan task e) task (current_of plan old e)
unfolding current_of writes
current_written plan task old new well is written e = ⊎_elim
    (λ (on : is_element plan e ≡ true).
    let n = number_of plan e in
    let same : list_any (writes_at plan n) (task_row plan task).accesses ≡ task_writes (task_row plan task) e =
    any_agree (writes_at plan n) (λ a. writes_mode a.mode && has a e) (task_row plan task).accesses
    (λ k d lt.
    let a = get_or (task_row plan task).accesses k d in
    ap (λ (t : Bool). writes_mode a.mode && t)
    (same_access plan a e well.layout (accesses_named plan task well is k d lt) ((well.tasks task is).views k d lt) on)) in
    ap (λ (t : Bool). cond t (get_or new n 0) 0) on ∙ written n ∙ ap (λ (t : Bool). cond t task (get_or old n 0)) same
    ∙ sym (ap (λ (t : Bool). cond (task_writes (task_row plan task) e) task (cond t (get_or old n 0) 0)) on))
    (λ (off : is_element plan e ≡ false).
    let none : task_writes (task_row plan task) e ≡ false =
    any_nowhere (λ a. writes_mode a.mode && has a e) (task_row plan task).accesses
    (λ k d lt.
    let a = get_or (task_row plan task).accesses k d in
    ap (λ (t : Bool). writes_mode a.mode && t) (no_access plan a e ((well.tasks task is).views k d lt) off) ∙ by (writes_mode a.mode)) in
    ap (λ (t : Bool). cond t (get_or new (number_of plan e) 0) 0) off
    ∙ sym (ap (λ (t : Bool). cond t task (cond (is_element plan e) (get_or old (number_of plan e) 0) 0)) none ∙ ap (λ (t : Bool). cond t (get_or old (number_of plan e) 0) 0) off))
    (cases_Bool (is_element plan e))
  where
    by : (t : Bool) → (t && false) ≡ false
    by true = refl
    by false = refl

-- an element that a task has stands among those of all arrays
pub access_within : (plan : Plan) (task k first len i : ℕ) (items : List AccessRow) (d : AccessRow) → IsWellFormed plan → IsOneOf (tasks plan) task → items ≡ (task_row plan task).accesses → k < length items
    → first ≡ (array_row plan (get_or items k d).view.array).first_element → len ≡ elements_in plan.arrays → i < length (index_list (get_or items k d).view)
    → first + get_or (index_list (get_or items k d).view) i 0 < len
access_within plan task k first len i items d well is same lt first_is len_is i_lt =
    let a = get_or items k d in
    let named = All-get_or (λ (x : AccessRow). IsNumberIn plan.arrays x.view.array) items k d lt (rw same (accesses_named plan task well is)) in
    let shown = All-get_or (λ (x : AccessRow). IsShown (array_row plan x.view.array) x.view) items k d lt (rw same (well.tasks task is).views) in
    let pos = positions_in plan a shown i 0 i_lt in
    let all = elements_within plan well.layout a.view.array named in
    omega (arith, pos, all, first_is, len_is)
