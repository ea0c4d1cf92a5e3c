-- The numbers of the elements that a task writes.
use Rattle.std.proofs.Common.{◌≡◌, ◌≢◌, ℕ, ◌+◌, ◌<◌, ◌≤◌, Bool, true, false, ◌&&◌, cond, eqb, List, [], ◌∷◌, length, get_or, refl, sym, ap, ◌∙◌, ⊎_elim, arith}
use Rattle.std.specs.List.{All, list_any}
use Rattle.std.proofs.lemmas.Bool.{eq-eqb, eqb-true}
use Rattle.std.proofs.lemmas.Bool.Decides.{eqb_tells}
use Rattle.std.proofs.lemmas.List.{get_or_default}
use Rattle.dd_lists.proofs.ListsLemmas.{list_any_same}
use Rattle.dd_views.specs.IndexList.{index_list}
use Rattle.dd_views.specs.Views.{IsView}
use Rattle.dd_views.proofs.WithinLemmas.{positions_within}
use Rattle.dd_blocks.specs.declared.access_row.AccessRow.{AccessRow}
use Rattle.dd_blocks.specs.declared.plan.Plan.{Plan}
use Rattle.dd_blocks.specs.Elements.{Element, has, task_writes, writes}
use Rattle.dd_blocks.specs.Layout.{elements_in}
use Rattle.dd_blocks.specs.Limits.{elements_limit}
use Rattle.dd_blocks.specs.Numbered.{IsNumberIn, array_row, task_row}
use Rattle.dd_blocks.specs.PlanElements.{IsElement, number_of}
use Rattle.dd_blocks.specs.Tasks.{shape_in}
use Rattle.dd_blocks.specs.WellFormed.{IsWellFormed}
use Rattle.dd_blocks.proofs.NumberedLemmas.{task_names_rows}
use Rattle.dd_blocks.proofs.PlanElementsLemmas.{number_of_element, same_element}
use Rattle.dd_history.specs.Currents.{AreVersions, IsFinished}
use Rattle.dd_history.specs.Sets.{IsAccess, IsSetWhere, is_at, writes_at}

pub accesses_of : (plan : Plan) (t : ℕ) → IsWellFormed plan → IsNumberIn plan.tasks t → All (IsAccess plan) (task_row plan t).accesses
accesses_of plan t well is k d lt = record {
  array = (task_names_rows plan well t is).accesses k d lt;
  shown = (well.tasks t is).views k d lt;
}

pub view_of_access : (plan : Plan) (access : AccessRow) → IsAccess plan access → IsView access.view
view_of_access plan access is = (shape_in (array_row plan access.view.array), is.shown.view)

-- its elements are elements of the Plan
pub element_of_access : (plan : Plan) (access : AccessRow) → IsAccess plan access → All (λ p. IsElement plan (record { array = access.view.array; pos = p })) (index_list access.view)
element_of_access plan access is k d lt = record {
  array = is.array;
  within = positions_within (shape_in (array_row plan access.view.array)) access.view is.shown.view k d lt;
}

pub numbers_within : (plan : Plan) (access : AccessRow) (versions : List ℕ) → IsWellFormed plan → IsAccess plan access → length versions ≡ elements_in plan.arrays
    → All (λ p. (array_row plan access.view.array).first_element + p < length versions) (index_list access.view)
numbers_within plan access versions well is count k d lt =
    let e : Element = record { array = access.view.array; pos = get_or (index_list access.view) k d } in
    let few = (number_of_element plan well.layout e e (element_of_access plan access is k d lt)).few in
    omega (arith, few, count)

-- an element has the number of another one exactly where it is this one
same_number : (plan : Plan) (e f : Element) → IsWellFormed plan → IsElement plan e → IsElement plan f
    → eqb (number_of plan e) (number_of plan f) ≡ (eqb e.array f.array && eqb e.pos f.pos)
same_number plan e f well is_e is_f = ⊎_elim
    (λ (same : (eqb (number_of plan e) (number_of plan f) ≡ true) × (number_of plan e ≡ number_of plan f)).
    let one = same_element plan well.layout e f is_e is_f same.1 in
    same.0 ∙ sym (ap (λ (b : Bool). b && eqb e.pos f.pos) (eq-eqb e.array f.array (ap (λ (x : Element). x.array) one)) ∙ eq-eqb e.pos f.pos (ap (λ (x : Element). x.pos) one)))
    (λ (apart : (eqb (number_of plan e) (number_of plan f) ≡ false) × (number_of plan e ≢ number_of plan f)).
    apart.0 ∙ sym (differs (λ array pos. apart.1 (ap (λ (n : ℕ). (array_row plan n).first_element + e.pos) array ∙ ap (λ (p : ℕ). (array_row plan f.array).first_element + p) pos))))
    (eqb_tells (number_of plan e) (number_of plan f))
  where
    both : (a b : Bool) → (a ≡ true → b ≡ true → ⊥) → (a && b) ≡ false
    both true true not_both = absurd (not_both refl refl)
    both true false not_both = refl
    both false b not_both = refl

    differs : (e.array ≡ f.array → e.pos ≡ f.pos → ⊥) → (eqb e.array f.array && eqb e.pos f.pos) ≡ false
    differs not_both = both (eqb e.array f.array) (eqb e.pos f.pos) (λ a b. not_both (eqb-true e.array f.array a) (eqb-true e.pos f.pos b))

list_any_and : (b : Bool) (p : ℕ → Bool) (xs : List ℕ) → list_any (λ x. b && p x) xs ≡ (b && list_any p xs)
list_any_and true p xs = refl
list_any_and false p [] = refl
list_any_and false p (x ∷ xs) = list_any_and false p xs

-- the access has the element exactly where it has its number
at_element : (plan : Plan) (access : AccessRow) (e : Element) → IsWellFormed plan → IsAccess plan access → IsElement plan e
    → is_at (array_row plan access.view.array).first_element (index_list access.view) (number_of plan e) ≡ has access e
at_element plan access e well is is_e =
    let array = access.view.array in
    list_any_same (λ p. eqb ((array_row plan array).first_element + p) (number_of plan e)) (λ p. eqb array e.array && eqb p e.pos) (index_list access.view)
    (λ k d lt. same_number plan (record { array = array; pos = get_or (index_list access.view) k d }) e well (element_of_access plan access is k d lt) is_e)
    ∙ list_any_and (eqb array e.array) (λ p. eqb p e.pos) (index_list access.view)

-- the task writes the element exactly where one of its accesses writes its number
pub writes_number : (plan : Plan) (t : ℕ) (e : Element) → IsWellFormed plan → IsNumberIn plan.tasks t → IsElement plan e
    → list_any (writes_at plan (number_of plan e)) (task_row plan t).accesses ≡ task_writes (task_row plan t) e
writes_number plan t e well is is_e =
    list_any_same (writes_at plan (number_of plan e)) (λ (a : AccessRow). writes a.mode && has a e) (task_row plan t).accesses
    (λ k d lt. ap (λ (b : Bool). writes (get_or (task_row plan t).accesses k d).mode && b) (at_element plan (get_or (task_row plan t).accesses k d) e well (accesses_of plan t well is k d lt) is_e))

-- where the numbers that the accesses write are set, the task is done
pub finished : (plan : Plan) (t : ℕ) (before after : List ℕ) → IsWellFormed plan → IsNumberIn plan.tasks t
    → IsSetWhere (λ q. list_any (writes_at plan q) (task_row plan t).accesses) t before after → IsFinished plan t before after
finished plan t before after well is set = record {
  len = set.len;
  each = λ e is_e. set.each (number_of plan e) ∙ ap (λ (b : Bool). cond b t (get_or before (number_of plan e) 0)) (writes_number plan t e well is is_e);
}

-- and each version is 0 or the number of a task, as before
pub still_versions : (plan : Plan) (t : ℕ) (p : ℕ → Bool) (before after : List ℕ) → IsNumberIn plan.tasks t → AreVersions plan before
    → IsSetWhere p t before after → AreVersions plan after
still_versions plan t p before after is versions set = record {
  count = set.len ∙ versions.count;
  tasks = λ k d lt.
      let low : k < length before = omega (arith, lt, set.len) in
      let here = versions.tasks k 0 low in
      let at = set.each k in
      let same : get_or after k d ≡ get_or after k 0 = get_or_default after k d 0 lt in
      elim (p k) as (λ b. get_or after k 0 ≡ cond b t (get_or before k 0) → get_or after k d ≤ length plan.tasks) [
        | true ↦ λ e. omega (arith, same, e, is.1)
        | false ↦ λ e. omega (arith, same, e, here)
      ] at;
}

pub few_elements : (plan : Plan) (versions : List ℕ) → IsWellFormed plan → length versions ≡ elements_in plan.arrays → length versions ≤ elements_limit
few_elements plan versions well count = omega (arith, count, well.limits.elements)
