-- The values of single elements, task after task.
use Rattle.std.proofs.Common.{◌≡◌, ℕ, zero, suc, ◌+◌, ◌-◌, ◌<◌, ◌≤◌, ℤ, pos, Bool, true, false, ◌&&◌, ◌||◌, cond, List, [], ◌∷◌, length, map, take, set, get_or, refl, sym, ap, ◌∙◌, subst, arith, inl, inr, ⊎_elim, get_or-set_other, get_or-set_same}
use Rattle.std.specs.Prelude.{nat_eq, All}
use Rattle.std.specs.List.{fold, list_any}
use Rattle.std.proofs.lemmas.Bool.{cases_Bool}
use Rattle.std.proofs.lemmas.Bool.Decides.{eqb_tells}
use Rattle.std.proofs.lemmas.List.{get_or-map, length-map, length-set}
use Rattle.std.proofs.lemmas.List.FromFn.{get_or-map-range_with_len, length-map-range_with_len}
use Rattle.std.proofs.lemmas.List.Sums.{fold_more}
use Rattle.dd_views.specs.IndexList.{index_list}
use Rattle.dd_blocks.specs.declared.access_row.AccessRow.{AccessRow}
use Rattle.dd_blocks.specs.declared.plan.Plan.{Plan}
use Rattle.dd_blocks.specs.Elements.{writes}
use Rattle.dd_blocks.specs.Numbered.{IsNumberIn, array_row, no_array, no_task, numbered, task_row}
use Rattle.dd_blocks.specs.Grids.{element_count}
use Rattle.dd_blocks.specs.WellFormed.{IsWellFormed}
use Rattle.dd_blocks.specs.declared.array_row.ArrayRow.{ArrayRow}
use Rattle.dd_meaning.specs.Steps.{computed, put_at, step, stored, stored_one, world_after}
use Rattle.dd_blocks.specs.Elements.{Element, has, task_writes}
use Rattle.dd_meaning.specs.Versions.{last_writer}
use Rattle.dd_meaning.specs.Worlds.{World, filled, filled_at, filled_world, values_of}
use Rattle.dd_meaning.specs.Values.{value_at, value_in}
use Rattle.dd_meaning.specs.Written.{IsIn, put_value, value_stored, value_stored_one}
use Rattle.dd_meaning.proofs.WorldLemmas.{stored_length, stored_sizes, values_beside, values_written}

-- one place of a list after another was written
set_at : (array : List ℤ) (q p : ℕ) (v : ℤ) → p < length array → get_or (set array q v) p (pos 0) ≡ cond (nat_eq q p) v (get_or array p (pos 0))
set_at array q p v lt = elim (eqb_tells q p) [
  | inl h ↦ rw h.0 (subst (λ (i : ℕ). get_or (set array i v) p (pos 0) ≡ v) (sym h.1) (get_or-set_same array p v (pos 0) lt))
  | inr h ↦ rw h.0 (get_or-set_other array q p v (pos 0) (λ e. h.1 (sym e)))
]

pub put_at_value : (ps : List ℕ) (values array : List ℤ) (p : ℕ) → p < length array → get_or (put_at ps values array) p (pos 0) ≡ put_value ps values p (get_or array p (pos 0))
put_at_value [] values array p lt = refl
put_at_value (q ∷ qs) [] array p lt = refl
put_at_value (q ∷ qs) (v ∷ values) array p lt =
    put_at_value qs values (set array q v) p (rw length-set lt) ∙ ap (put_value qs values p) (set_at array q p v lt)

-- one access that is stored
pub stored_one_value : (world : World) (a : AccessRow) (values : List ℤ) (e : Element) → 1 ≤ a.view.array → IsIn world e
    → value_in (stored_one world a values) e ≡ value_stored_one a values e (value_in world e)
stored_one_value world a values e low is = ⊎_elim
    (λ (w : writes a.mode ≡ true). rw w (elim (eqb_tells a.view.array e.array) [
      | inl h ↦ rw h.0 (
          ap (λ (l : List ℤ). get_or l e.pos (pos 0)) (subst (λ (n : ℕ). values_of (set world (a.view.array - 1) (put_at (index_list a.view) values (values_of world a.view.array))) n ≡ put_at (index_list a.view) values (values_of world a.view.array)) h.1 (values_written world a.view.array _ low (omega (arith, h.1, is.high))))
          ∙ ap (λ (n : ℕ). get_or (put_at (index_list a.view) values (values_of world n)) e.pos (pos 0)) h.1
          ∙ put_at_value (index_list a.view) values (values_of world e.array) e.pos is.pos)
      | inr h ↦ rw h.0 (ap (λ (l : List ℤ). get_or l e.pos (pos 0)) (values_beside world a.view.array e.array _ low h.1))
    ]))
    (λ (r : writes a.mode ≡ false). rw r refl)
    (cases_Bool (writes a.mode))

one_is_in : (world : World) (a : AccessRow) (values : List ℤ) (e : Element) → 1 ≤ a.view.array → IsIn world e → IsIn (stored_one world a values) e
one_is_in world a values e low is = record {
  low = is.low;
  high = let same : length (stored_one world a values) ≡ length world = sym (length-map (stored_one world a values) length) ∙ ap length (stored_sizes world a values low) ∙ length-map world length in omega (arith, same, is.high);
  pos = omega (arith, stored_length world a values e.array low, is.pos);
}

-- all accesses, one after the other
abbrev pub AreNamed : List AccessRow → Type 0
AreNamed accesses = All (λ (a : AccessRow). 1 ≤ a.view.array) accesses

pub stored_value : (accesses : List AccessRow) (lists : List (List ℤ)) (world : World) (e : Element) → AreNamed accesses → IsIn world e
    → value_in (stored world accesses lists) e ≡ value_stored accesses lists e (value_in world e)
stored_value [] lists world e named is = refl
stored_value (a ∷ more) [] world e named is = refl
stored_value (a ∷ more) (values ∷ lists) world e named is =
    let one : 1 ≤ a.view.array = named 0 a (omega arith) in
    let rest : AreNamed more = λ k d lt. named (suc k) d (omega arith) in
    stored_value more lists (stored_one world a values) e rest (one_is_in world a values e one is)
    ∙ ap (value_stored more lists e) (stored_one_value world a values e one is)

pub all_is_in : (accesses : List AccessRow) (lists : List (List ℤ)) (world : World) (e : Element) → AreNamed accesses → IsIn world e → IsIn (stored world accesses lists) e
all_is_in [] lists world e named is = is
all_is_in (a ∷ more) [] world e named is = is
all_is_in (a ∷ more) (values ∷ lists) world e named is =
    let one : 1 ≤ a.view.array = named 0 a (omega arith) in
    let rest : AreNamed more = λ k d lt. named (suc k) d (omega arith) in
    all_is_in more lists (stored_one world a values) e rest (one_is_in world a values e one is)

-- what no access that is written has stays
neither : (a b : Bool) → (a || b) ≡ false → (a ≡ false) × (b ≡ false)
neither true b e = absurd (cc)
neither false b e = (refl, e)

pub put_nothing : (qs : List ℕ) (values : List ℤ) (p : ℕ) (before : ℤ) → list_any (λ q. nat_eq q p) qs ≡ false → put_value qs values p before ≡ before
put_nothing [] values p before none = refl
put_nothing (q ∷ qs) [] p before none = refl
put_nothing (q ∷ qs) (v ∷ values) p before none =
    let apart = neither (nat_eq q p) (list_any (λ q. nat_eq q p) qs) none in
    rw apart.0 (put_nothing qs values p before apart.1)

one_nothing : (a : AccessRow) (values : List ℤ) (e : Element) (before : ℤ) → (writes a.mode && has a e) ≡ false → value_stored_one a values e before ≡ before
one_nothing a values e before none = ⊎_elim
    (λ (w : writes a.mode ≡ true). ⊎_elim
    (λ (s : nat_eq a.view.array e.array ≡ true).
    let lacks : list_any (λ q. nat_eq q e.pos) (index_list a.view) ≡ false = rw (w, s) at none in
    rw (w, s) (put_nothing (index_list a.view) values e.pos before lacks))
    (λ (o : nat_eq a.view.array e.array ≡ false). rw (w, o) refl)
    (cases_Bool (nat_eq a.view.array e.array)))
    (λ (r : writes a.mode ≡ false). rw r refl)
    (cases_Bool (writes a.mode))

pub stored_nothing : (accesses : List AccessRow) (lists : List (List ℤ)) (e : Element) (before : ℤ)
    → list_any (λ (a : AccessRow). writes a.mode && has a e) accesses ≡ false → value_stored accesses lists e before ≡ before
stored_nothing [] lists e before none = refl
stored_nothing (a ∷ more) [] e before none = refl
stored_nothing (a ∷ more) (values ∷ lists) e before none =
    let apart = neither (writes a.mode && has a e) (list_any (λ (b : AccessRow). writes b.mode && has b e) more) none in
    ap (value_stored more lists e) (one_nothing a values e before apart.0) ∙ stored_nothing more lists e before apart.1

-- Task after task.

pub world_next : (plan : Plan) (n : ℕ) → n < length plan.tasks → world_after plan (suc n) ≡ step (world_after plan n) (task_row plan (suc n))
world_next plan n lt = let e : suc n ≡ n + 1 = omega arith in
    ap (λ (m : ℕ). fold step (filled_world plan) (take m plan.tasks)) e ∙ fold_more step (filled_world plan) plan.tasks n no_task lt

-- the accesses of all tasks are of arrays
abbrev pub NamesArrays : Plan → Type 0
NamesArrays plan = (n : ℕ) → n < length plan.tasks → AreNamed (task_row plan (suc n)).accesses

pub is_in_after : (plan : Plan) (e : Element) (n : ℕ) → NamesArrays plan → IsIn (filled_world plan) e → n ≤ length plan.tasks → IsIn (world_after plan n) e
is_in_after plan e zero named is le = is
is_in_after plan e (suc n) named is le =
    let before = is_in_after plan e n named is (omega arith) in
    subst (λ (w : World). IsIn w e) (sym (world_next plan n (omega arith)))
    (all_is_in (task_row plan (suc n)).accesses (computed (world_after plan n) (task_row plan (suc n))) (world_after plan n) e (named n (omega arith)) before)

-- a task that doesn't write an element leaves its value
pub value_stays : (plan : Plan) (e : Element) (n : ℕ) → NamesArrays plan → IsIn (filled_world plan) e → n < length plan.tasks
    → task_writes (task_row plan (suc n)) e ≡ false → value_at plan (suc n) e ≡ value_at plan n e
value_stays plan e n named is lt none =
    ap (λ (w : World). value_in w e) (world_next plan n lt)
    ∙ stored_value (task_row plan (suc n)).accesses (computed (world_after plan n) (task_row plan (suc n))) (world_after plan n) e (named n lt) (is_in_after plan e n named is (omega arith))
    ∙ stored_nothing (task_row plan (suc n)).accesses (computed (world_after plan n) (task_row plan (suc n))) e (value_at plan n e) none

-- a value is the one that the last task that writes the element made
pub value_of_version : (plan : Plan) (e : Element) (n : ℕ) → NamesArrays plan → IsIn (filled_world plan) e → n ≤ length plan.tasks
    → value_at plan n e ≡ value_at plan (last_writer plan e n) e
value_of_version plan e zero named is le = refl
value_of_version plan e (suc n) named is le = ⊎_elim
    (λ (w : task_writes (task_row plan (suc n)) e ≡ true). rw w refl)
    (λ (o : task_writes (task_row plan (suc n)) e ≡ false).
    rw o (value_stays plan e n named is (omega arith) o ∙ value_of_version plan e n named is (omega arith)))
    (cases_Bool (task_writes (task_row plan (suc n)) e))

-- and what a task wrote is what it stored last
pub value_written : (plan : Plan) (e : Element) (n : ℕ) → NamesArrays plan → IsIn (filled_world plan) e → n < length plan.tasks
    → value_at plan (suc n) e ≡ value_stored (task_row plan (suc n)).accesses (computed (world_after plan n) (task_row plan (suc n))) e (value_at plan n e)
value_written plan e n named is lt =
    ap (λ (w : World). value_in w e) (world_next plan n lt)
    ∙ stored_value (task_row plan (suc n)).accesses (computed (world_after plan n) (task_row plan (suc n))) (world_after plan n) e (named n lt) (is_in_after plan e n named is (omega arith))

-- an element that no task from j + 1 to j + n writes has one value after j tasks and after j + n
pub value_kept : (plan : Plan) (e : Element) (j n : ℕ) → NamesArrays plan → IsIn (filled_world plan) e → j + n ≤ length plan.tasks
    → ((t : ℕ) → j < t → t ≤ j + n → task_writes (task_row plan t) e ≡ false) → value_at plan (j + n) e ≡ value_at plan j e
value_kept plan e j zero named is le none = let same : j + 0 ≡ j = omega arith in ap (λ (k : ℕ). value_at plan k e) same
value_kept plan e j (suc n) named is le none =
    let next : j + suc n ≡ suc (j + n) = omega arith in
    ap (λ (k : ℕ). value_at plan k e) next
    ∙ value_stays plan e (j + n) named is (omega arith) (none (suc (j + n)) (omega arith) (omega arith))
    ∙ value_kept plan e j n named is (omega arith) (λ t low high. none t low (omega arith))

-- Of a well-formed Plan.

pub names_arrays : (plan : Plan) → IsWellFormed plan → NamesArrays plan
names_arrays plan well = λ n lt. λ k d le. ((well.names.tasks n no_task lt).accesses k d le).0

numbered_map : {A : Type 0} (f : ArrayRow → List A) (rows : List ArrayRow) (n : ℕ) → IsNumberIn rows n → numbered [] (map f rows) n ≡ f (numbered no_array rows n)
numbered_map f rows zero is = absurd (omega (arith, is.0))
numbered_map f rows (suc n) is = get_or-map f rows n no_array [] (omega (arith, is.1))

-- an element of an array is one of the first world, and has there what its array is filled with
pub in_first_world : (plan : Plan) (e : Element) → IsNumberIn plan.arrays e.array → e.pos < element_count (array_row plan e.array).grid → IsIn (filled_world plan) e
in_first_world plan e named within =
    let long : length (values_of (filled_world plan) e.array) ≡ element_count (array_row plan e.array).grid =
    ap length (numbered_map filled plan.arrays e.array named)
    ∙ length-map-range_with_len (filled_at (array_row plan e.array).fill) 0 (element_count (array_row plan e.array).grid) in
    record {
      low = named.0;
      high = omega (arith, named.1, length-map plan.arrays filled);
      pos = omega (arith, long, within);
    }

pub first_value : (plan : Plan) (e : Element) → IsNumberIn plan.arrays e.array → e.pos < element_count (array_row plan e.array).grid
    → value_at plan 0 e ≡ filled_at (array_row plan e.array).fill e.pos
first_value plan e named within =
    ap (λ (l : List ℤ). get_or l e.pos (pos 0)) (numbered_map filled plan.arrays e.array named)
    ∙ get_or-map-range_with_len (filled_at (array_row plan e.array).fill) 0 (element_count (array_row plan e.array).grid) e.pos e.pos (pos 0) within (omega arith)

-- Of a well-formed Plan: an element that no task from j + 1 to k writes has one value after j tasks and after k.
pub unwritten_stays : (plan : Plan) (e : Element) (j k : ℕ) → IsWellFormed plan → IsNumberIn plan.arrays e.array
    → e.pos < element_count (array_row plan e.array).grid → j ≤ k → k ≤ length plan.tasks
    → ((t : ℕ) → j < t → t ≤ k → task_writes (task_row plan t) e ≡ false) → value_at plan k e ≡ value_at plan j e
unwritten_stays plan e j k well named within le last none =
    let same : j + (k - j) ≡ k = omega (arith, le) in
    ap (λ (n : ℕ). value_at plan n e) (sym same)
    ∙ value_kept plan e j (k - j) (names_arrays plan well) (in_first_world plan e named within) (omega (arith, le, last))
    (λ t low high. none t low (omega (arith, le, high)))
