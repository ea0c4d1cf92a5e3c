-- The row of a region, the end of an array, and whether a task is of a region.
use Rattle.std.proofs.Common.{◌≡◌, ◌≢◌, ℕ, zero, suc, ◌+◌, ◌-◌, ◌<◌, ◌≤◌, true, false, eqb, length, take, refl, ap, ◌∙◌, arith}
use Rattle.std.specs.List.{list_any, range_with_len}
use Rattle.std.specs.Prelude.{Contains}
use Rattle.std.proofs.lemmas.Bool.{eq-eqb, eqb-true}
use Rattle.std.proofs.lemmas.List.Elements.{All-contains}
use Rattle.std.proofs.lemmas.List.Sums.{sum_by_more}
use Rattle.dd_lists.proofs.ListsLemmas.{Contains-filter, has_number, number_in}
use Rattle.dd_views.proofs.ListsLemmas.{range_has}
use Rattle.dd_spans.proofs.MembersLemmas.{contains_from_filter}
use Rattle.dd_blocks.specs.declared.array_row.ArrayRow.{ArrayRow}
use Rattle.dd_blocks.specs.declared.plan.Plan.{Plan}
use Rattle.dd_blocks.specs.Grids.{element_count}
use Rattle.dd_blocks.specs.Layout.{IsLaidOut, elements_in}
use Rattle.dd_blocks.specs.Numbered.{IsNumberIn, array_row, no_array, task_row}
use Rattle.dd_blocks.proofs.LayoutLemmas.{stands}
use Rattle.dd_meaning.specs.Versions.{tasks_in}
use Rattle.dd_meaning.proofs.RegionTasksLemmas.{region_numbers}

-- an element before the end of some arrays, and not before the last one of these, is in that one
pub record IsInLast (plan : Plan) (n element : ℕ) : Type 0 where
  pub array : IsNumberIn plan.arrays n
  pub end : element < (array_row plan n).first_element + element_count (array_row plan n).grid

pub in_last : (plan : Plan) (n element : ℕ) → IsLaidOut plan → n ≤ length plan.arrays → element < elements_in (take n plan.arrays) → IsInLast plan n element
in_last plan zero element laid le lt = absurd (omega (arith, lt))
in_last plan (suc i) element laid le lt =
    let count : ArrayRow → ℕ = λ a. element_count a.grid in
    let is : IsNumberIn plan.arrays (suc i) = (omega arith, le) in
    let next : i + 1 ≡ suc i = omega arith in
    let back : suc i - 1 ≡ i = omega arith in
    let first : (array_row plan (suc i)).first_element ≡ elements_in (take i plan.arrays) = (stands plan laid (suc i) is).first_element ∙ ap (λ (k : ℕ). elements_in (take k plan.arrays)) back in
    let more : elements_in (take (i + 1) plan.arrays) ≡ elements_in (take i plan.arrays) + count (array_row plan (suc i)) = sum_by_more count plan.arrays i no_array (omega (arith, le)) in
    let turned = ap (λ (k : ℕ). elements_in (take k plan.arrays)) next in
    record { array = is; end = omega (arith, lt, first, more, turned) }

-- whether a task is of a region
pub of_region : (plan : Plan) (region t : ℕ) → IsNumberIn plan.tasks t → (task_row plan t).region ≡ region → list_any (λ u. eqb u t) (tasks_in plan region) ≡ true
of_region plan region t is same =
    has_number (tasks_in plan region) t
    (Contains-filter (λ u. eqb (task_row plan u).region region) (range_with_len 1 (length plan.tasks)) t (range_has 1 (length plan.tasks) t is.0 (omega (arith, is.1))) (eq-eqb (task_row plan t).region region same))

pub not_of_region : (plan : Plan) (region t : ℕ) → (1 ≤ t → (task_row plan t).region ≢ region) → list_any (λ u. eqb u t) (tasks_in plan region) ≡ false
not_of_region plan region t differs =
    (elim (list_any (λ u. eqb u t) (tasks_in plan region)) as (λ b. list_any (λ u. eqb u t) (tasks_in plan region) ≡ b → b ≡ false) [
      | true ↦ λ is.
          let there : Contains (tasks_in plan region) t = number_in (tasks_in plan region) t is in
          let number : IsNumberIn plan.tasks t = All-contains (IsNumberIn plan.tasks) (tasks_in plan region) t (region_numbers plan region) there in
          let passes = (contains_from_filter (λ u. eqb (task_row plan u).region region) (range_with_len 1 (length plan.tasks)) t there).1 in
          absurd (differs number.0 (eqb-true (task_row plan t).region region passes))
      | false ↦ λ is. refl
    ]) refl
