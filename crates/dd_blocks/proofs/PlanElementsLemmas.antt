-- The elements of a Plan: each has one number among all elements, and one place in one block.
use Rattle.std.proofs.Common.{◌≡◌, ◌↔◌, ℕ, zero, suc, ◌+◌, ◌-◌, ◌<◌, ◌≤◌, List, ◌++◌, length, get_or, map, take, refl, sym, ap, ◌∙◌, arith, ⊎_elim}
use Rattle.std.specs.List.{All, Contains, flat_map, range_with_len, sum_by}
use Rattle.std.proofs.lemmas.Bool.{cases_lt}
use Rattle.std.proofs.lemmas.List.{append-nil, get_or-map, get_or_default, get_or_past, length-map, map-append, take_all}
use Rattle.std.proofs.lemmas.List.Concat.{flat_map-append}
use Rattle.std.proofs.lemmas.List.Elements.{All-contains, All-get_or, All-map}
use Rattle.std.proofs.lemmas.List.FromFn.{get_or-range_with_len, length-range_with_len}
use Rattle.std.proofs.lemmas.List.Sums.{sum_by_more}
use Rattle.std.proofs.lemmas.Simd.{map-map}
use Rattle.dd_views.proofs.ListsLemmas.{range_has}
use Rattle.dd_lists.proofs.ListsLemmas.{All-flat_map, Contains-flat_map, Contains-map}
use Rattle.dd_lists.proofs.SumsLemmas.{map-shift, range-add, sum_by-flat_map, sum_by-map, sum_same}
use Rattle.dd_blocks.specs.declared.array_row.ArrayRow.{ArrayRow}
use Rattle.dd_blocks.specs.declared.block_row.BlockRow.{BlockRow}
use Rattle.dd_blocks.specs.declared.plan.Plan.{Plan}
use Rattle.dd_blocks.specs.Elements.{Element, UsesElement}
use Rattle.dd_blocks.specs.Grids.{block_of, block_size, element_count, pos_of}
use Rattle.dd_blocks.specs.Layout.{IsLaidOut, elements_in}
use Rattle.dd_blocks.specs.Numbered.{IsNumberIn, array_row, block_row, no_array, task_row}
use Rattle.dd_blocks.specs.PlanElements.{IsElement, block_in_grid, block_of_element, element_of, elements, elements_of, grid_of, number_of, place_of_element}
use Rattle.dd_blocks.specs.WellFormed.{IsWellFormed}
use Rattle.dd_blocks.proofs.GridLemmas.{block_back, block_within, in_block, place_back, pos_within, position_back}
use Rattle.dd_blocks.proofs.LayoutLemmas.{block_stands, grid_stands, has_block, stands}

-- ---- the list of all elements

-- the elements of the list are those of the Plan
pub all_elements : (plan : Plan) → All (IsElement plan) (elements plan)
all_elements plan =
    All-flat_map (IsElement plan) (elements_of plan) (range_with_len 1 (length plan.arrays))
    (λ k d lt.
    let few = length-range_with_len 1 (length plan.arrays) in
    let n : ℕ = get_or (range_with_len 1 (length plan.arrays)) k d in
    let at : n ≡ 1 + k = get_or-range_with_len 1 (length plan.arrays) k d (omega (arith, lt, few)) in
    let count : ℕ = element_count (array_row plan n).grid in
    let make : ℕ → Element = λ p. record { array = n; pos = p } in
    All-map (IsElement plan) make (range_with_len 0 count)
    (λ i e less.
    let many = length-range_with_len 0 count in
    let p : get_or (range_with_len 0 count) i e ≡ 0 + i = get_or-range_with_len 0 count i e (omega (arith, less, many)) in
    record { array = (omega (arith, at), omega (arith, at, lt, few)); within = omega (arith, p, less, many) }))

pub has_each : (plan : Plan) (e : Element) → IsElement plan e → Contains (elements plan) e
has_each plan e is =
    let count : ℕ = element_count (array_row plan e.array).grid in
    let make : ℕ → Element = λ p. record { array = e.array; pos = p } in
    Contains-flat_map (elements_of plan) (range_with_len 1 (length plan.arrays)) e.array e
    (range_has 1 (length plan.arrays) e.array is.array.0 (omega (arith, is.array.1)))
    (Contains-map make (range_with_len 0 count) e.pos (range_has 0 count e.pos (omega arith) (omega (arith, is.within))))

pub is_element : (plan : Plan) (e : Element) → Contains (elements plan) e ↔ IsElement plan e
is_element plan e = (All-contains (IsElement plan) (elements plan) e (all_elements plan), has_each plan e)

-- ---- their numbers

numbers_upto : (plan : Plan) → IsLaidOut plan → (i : ℕ) → i ≤ length plan.arrays
    → map (number_of plan) (flat_map (elements_of plan) (range_with_len 1 i)) ≡ range_with_len 0 (elements_in (take i plan.arrays))
numbers_upto plan laid zero le = refl
numbers_upto plan laid (suc i) le =
    let n : ℕ = suc i in
    let count : ArrayRow → ℕ = λ a. element_count a.grid in
    let within : IsNumberIn plan.arrays n = (omega arith, le) in
    let next : i + 1 ≡ n = omega arith in
    let back : n - 1 ≡ i = omega arith in
    let here : 1 + i ≡ n = omega arith in
    let before : ℕ = elements_in (take i plan.arrays) in
    let make : ℕ → Element = λ p. record { array = n; pos = p } in
    let total : before + count (array_row plan n) ≡ elements_in (take n plan.arrays) = sym (sum_by_more count plan.arrays i no_array (omega arith)) ∙ ap (λ (k : ℕ). elements_in (take k plan.arrays)) next in
    let first : (array_row plan n).first_element ≡ before = (stands plan laid n within).first_element ∙ ap (λ (k : ℕ). elements_in (take k plan.arrays)) back in
    let one : map (number_of plan) (elements_of plan n) ≡ range_with_len (0 + before) (count (array_row plan n)) =
    map-map (number_of plan) make (range_with_len 0 (count (array_row plan n)))
    ∙ map-shift (array_row plan n).first_element 0 (count (array_row plan n))
    ∙ ap (λ (k : ℕ). range_with_len k (count (array_row plan n))) (omega (arith, first)) in
    let last : flat_map (elements_of plan) (range_with_len (1 + i) 1) ≡ elements_of plan n = append-nil (elements_of plan (1 + i)) ∙ ap (elements_of plan) here in
    ap (λ (k : ℕ). map (number_of plan) (flat_map (elements_of plan) (range_with_len 1 k))) (sym next)
    ∙ ap (λ (xs : List ℕ). map (number_of plan) (flat_map (elements_of plan) xs)) (range-add 1 i 1)
    ∙ ap (map (number_of plan)) (flat_map-append (elements_of plan) (range_with_len 1 i) (range_with_len (1 + i) 1))
    ∙ map-append (number_of plan) (flat_map (elements_of plan) (range_with_len 1 i)) (flat_map (elements_of plan) (range_with_len (1 + i) 1))
    ∙ ap (λ (xs : List ℕ). xs ++ map (number_of plan) (flat_map (elements_of plan) (range_with_len (1 + i) 1))) (numbers_upto plan laid i (omega arith))
    ∙ ap (λ (xs : List Element). range_with_len 0 before ++ map (number_of plan) xs) last
    ∙ ap (λ (xs : List ℕ). range_with_len 0 before ++ xs) one
    ∙ sym (range-add 0 before (count (array_row plan n)))
    ∙ ap (range_with_len 0) total

-- they are numbered as they stand
pub numbers_are : (plan : Plan) → IsLaidOut plan → map (number_of plan) (elements plan) ≡ range_with_len 0 (elements_in plan.arrays)
numbers_are plan laid =
    numbers_upto plan laid (length plan.arrays) (omega arith)
    ∙ ap (λ (rows : List ArrayRow). range_with_len 0 (elements_in rows)) (take_all (length plan.arrays) plan.arrays (omega arith))

pub length_elements : (plan : Plan) → IsLaidOut plan → length (elements plan) ≡ elements_in plan.arrays
length_elements plan laid =
    sym (length-map (elements plan) (number_of plan)) ∙ ap length (numbers_are plan laid) ∙ length-range_with_len 0 (elements_in plan.arrays)

number_at : (plan : Plan) → IsLaidOut plan → (q : ℕ) (d : Element) → q < elements_in plan.arrays → number_of plan (get_or (elements plan) q d) ≡ q
number_at plan laid q d lt =
    sym (get_or-map (number_of plan) (elements plan) q d q (omega (arith, lt, length_elements plan laid)))
    ∙ ap (λ (xs : List ℕ). get_or xs q q) (numbers_are plan laid)
    ∙ get_or-range_with_len 0 (elements_in plan.arrays) q q lt
    ∙ omega arith

-- the element with a number, and the number of an element
pub record HasNumber (plan : Plan) (q : ℕ) (e : Element) : Type 0 where
  pub is : IsElement plan e
  pub number : number_of plan e ≡ q

pub element_numbered : (plan : Plan) → IsLaidOut plan → (q : ℕ) (d : Element) → q < elements_in plan.arrays → HasNumber plan q (get_or (elements plan) q d)
element_numbered plan laid q d lt = record {
  is = All-get_or (IsElement plan) (elements plan) q d (omega (arith, lt, length_elements plan laid)) (all_elements plan);
  number = number_at plan laid q d lt;
}

pub record IsNumbered (plan : Plan) (e d : Element) : Type 0 where
  pub few : number_of plan e < elements_in plan.arrays
  pub element : get_or (elements plan) (number_of plan e) d ≡ e

pub number_of_element : (plan : Plan) → IsLaidOut plan → (e d : Element) → IsElement plan e → IsNumbered plan e d
number_of_element plan laid e d is =
    let here = has_each plan e is in
    let lt : here.0 < elements_in plan.arrays = omega (arith, here.1, length_elements plan laid) in
    let number : number_of plan e ≡ here.0 = ap (number_of plan) (sym here.2) ∙ number_at plan laid here.0 e lt in
    record {
      few = omega (arith, number, lt);
      element = ap (λ (q : ℕ). get_or (elements plan) q d) number ∙ get_or_default (elements plan) here.0 d e here.1 ∙ here.2;
    }

-- no two elements have one number
pub same_element : (plan : Plan) → IsLaidOut plan → (e f : Element) → IsElement plan e → IsElement plan f → number_of plan e ≡ number_of plan f → e ≡ f
same_element plan laid e f is_e is_f same =
    sym (number_of_element plan laid e e is_e).element ∙ ap (λ (q : ℕ). get_or (elements plan) q e) same ∙ (number_of_element plan laid f e is_f).element

-- ---- sums over them

pub sum_by_arrays : (plan : Plan) (f : Element → ℕ)
    → sum_by f (elements plan) ≡ sum_by (λ n. sum_by (λ p. f (record { array = n; pos = p })) (range_with_len 0 (element_count (array_row plan n).grid))) (range_with_len 1 (length plan.arrays))
sum_by_arrays plan f =
    sum_by-flat_map f (elements_of plan) (range_with_len 1 (length plan.arrays))
    ∙ sum_same (λ n. sum_by f (elements_of plan n)) (λ n. sum_by (λ p. f (record { array = n; pos = p })) (range_with_len 0 (element_count (array_row plan n).grid))) 1 (length plan.arrays)
    (λ n low high. let make : ℕ → Element = λ p. record { array = n; pos = p } in sum_by-map f make (range_with_len 0 (element_count (array_row plan n).grid)))

pub sum_by_numbers : (plan : Plan) → IsLaidOut plan → (g : ℕ → ℕ)
    → sum_by g (range_with_len 0 (elements_in plan.arrays)) ≡ sum_by (λ e. g (number_of plan e)) (elements plan)
sum_by_numbers plan laid g = ap (sum_by g) (sym (numbers_are plan laid)) ∙ sum_by-map g (number_of plan) (elements plan)

-- ---- places in blocks

-- an element has a place in a block, and that place has the element
pub record HasPlace (plan : Plan) (e : Element) : Type 0 where
  pub block : IsNumberIn plan.blocks (block_of_element plan e)
  pub array : (block_row plan (block_of_element plan e)).array ≡ e.array
  pub place : place_of_element plan e < (block_row plan (block_of_element plan e)).size
  pub back : element_of plan (block_of_element plan e) (place_of_element plan e) ≡ e

pub place_of_each : (plan : Plan) → IsLaidOut plan → (e : Element) → IsElement plan e → HasPlace plan e
place_of_each plan laid e is =
    let g = (array_row plan e.array).grid in
    let first : ℕ = (array_row plan e.array).first_block in
    let grid = grid_stands plan laid e.array is.array in
    let b : ℕ = block_of g e.pos in
    let has = has_block plan laid e.array b is.array (block_within g e.pos grid is.within) in
    let number : first + b - first ≡ b = omega arith in
    let size : (block_row plan (first + b)).size ≡ block_size g b = has.size ∙ ap (block_size g) number in
    let inside = in_block g e.pos grid is.within in
    let at : ℕ → Element = λ n. record { array = n; pos = pos_of (array_row plan n).grid (first + b - (array_row plan n).first_block) (place_of_element plan e) } in
    let here : ℕ → Element = λ p. record { array = e.array; pos = p } in
    record {
      block = (has.low, has.high);
      array = has.array;
      place = omega (arith, inside, size);
      back = ap at has.array ∙ ap (λ (k : ℕ). here (pos_of g k (place_of_element plan e))) number ∙ ap here (position_back g e.pos grid is.within);
    }

-- a place of a block has an element, which is in the block and at the place
pub record HasElementAt (plan : Plan) (block place : ℕ) : Type 0 where
  pub is : IsElement plan (element_of plan block place)
  pub block_is : block_of_element plan (element_of plan block place) ≡ block
  pub place_is : place_of_element plan (element_of plan block place) ≡ place

pub element_of_place : (plan : Plan) → IsLaidOut plan → (block place : ℕ) → IsNumberIn plan.blocks block → place < (block_row plan block).size → HasElementAt plan block place
element_of_place plan laid block place within lt =
    let n : ℕ = (block_row plan block).array in
    let g = grid_of plan block in
    let b : ℕ = block_in_grid plan block in
    let at = block_stands plan laid block within in
    let inside : place < block_size g b = omega (arith, lt, at.size) in
    let first : (array_row plan n).first_block + b ≡ block = omega (arith, at.low) in
    record {
      is = record { array = at.array; within = pos_within g b place at.grid at.high inside };
      block_is = ap (λ (k : ℕ). (array_row plan n).first_block + k) (block_back g b place at.grid at.high inside) ∙ first;
      place_is = place_back g b place at.grid at.high inside;
    }

-- what has a place is a block of the Plan
pub block_within_plan : (plan : Plan) (block place : ℕ) → place < (block_row plan block).size → IsNumberIn plan.blocks block
block_within_plan plan zero place lt = absurd (omega (arith, lt))
block_within_plan plan (suc b) place lt =
    ⊎_elim
    (λ (h : b < length plan.blocks). let both : IsNumberIn plan.blocks (suc b) = (omega arith, h) in both)
    (λ (past : length plan.blocks ≤ b).
    let none : BlockRow = record { array = 0; home = 0; size = 0 } in
    absurd (omega (arith, lt, ap (λ (r : BlockRow). r.size) (get_or_past plan.blocks b none past))))
    (cases_lt b (length plan.blocks))

-- a task that uses an element of a block touches the block
pub touches_used : (plan : Plan) → IsWellFormed plan → (t block place : ℕ) → IsNumberIn plan.tasks t → place < (block_row plan block).size
    → UsesElement (task_row plan t) (element_of plan block place).array (element_of plan block place).pos → Contains (task_row plan t).blocks block
touches_used plan well t block place within lt uses =
    let at = element_of_place plan well.layout block place (block_within_plan plan block place lt) lt in
    ((well.tasks t within).blocks.exact block).1 ((element_of plan block place).array, (element_of plan block place).pos, uses, at.block_is)
