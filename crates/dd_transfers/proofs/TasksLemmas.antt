-- The visits of tasks, as seen by one element.
use Rattle.std.proofs.Common.{◌≡◌, ◌≢◌, ℕ, ◌+◌, ◌<◌, Bool, true, false, eqb, cond, ◌&&◌, List, refl, sym, ap, ◌∙◌, arith, ⊎_elim}
use Rattle.std.specs.List.{All, flat_map, list_any}
use Rattle.std.proofs.lemmas.Bool.{cases_eq}
use Rattle.std.proofs.lemmas.Bool.Decides.{nat_tests}
use Rattle.std.proofs.lemmas.List.Elements.{All-map, All-weaker}
use Rattle.std.proofs.lemmas.List.Folds.{list_any_none}
use Rattle.dd_views.specs.declared.view.View.{View}
use Rattle.dd_views.specs.IndexList.{index_list}
use Rattle.dd_blocks.specs.declared.access_row.AccessRow.{AccessRow}
use Rattle.dd_blocks.specs.declared.plan.Plan.{Plan}
use Rattle.dd_blocks.specs.declared.task_row.TaskRow.{TaskRow}
use Rattle.dd_blocks.specs.Grids.{element_count}
use Rattle.dd_blocks.specs.Layout.{IsLaidOut}
use Rattle.dd_blocks.specs.Numbered.{array_row}
use Rattle.dd_blocks.specs.Tasks.{shape_in}
use Rattle.dd_blocks.specs.Elements.{Element, has}
use Rattle.dd_blocks.specs.PlanElements.{IsElement, number_of}
use Rattle.dd_blocks.proofs.PlanElementsLemmas.{same_element}
use Rattle.dd_views.proofs.WithinLemmas.{positions_within}
use Rattle.dd_transfers.specs.declared.mark.Visit.{Visit}
use Rattle.dd_transfers.specs.Homes.{IsViewIn, home_by}
use Rattle.dd_transfers.specs.Marks.{mark_after, moves_at}
use Rattle.dd_transfers.specs.Visits.{ElementVisit, IsWalkable, access_visits, is_of, visit_at, visits_by, visits_of}
use Rattle.dd_transfers.proofs.ElementLemmas.{AreAlike, element_mark, element_moves, mark_alike, moves_alike, visits_it}
use Rattle.dd_lists.proofs.ListsLemmas.{All-cond, All-flat_map, list_any-cond, list_any-flat_map, list_any-map, list_any_same}

-- an element of the Plan, its number among all elements and its home
pub record IsElementOf (plan : Plan) (homes : List ℕ) (e : Element) (q home : ℕ) : Type 0 where
  pub is : IsElement plan e
  pub number : q ≡ number_of plan e
  pub home_is : home ≡ home_by plan homes e

alike_of : (plan : Plan) → IsLaidOut plan → (homes : List ℕ) (visit : Visit) (e : Element) (q home : ℕ) → IsElementOf plan homes e q home
    → (view : View) → IsViewIn plan view → AreAlike q visit home (visits_of plan homes visit view)
alike_of plan laid homes visit e q home is view inside =
    let P : ElementVisit → Type 0 = λ v. v.at ≡ q → (v.home ≡ home) × (v.visit ≡ visit) in
    All-map P (visit_at plan homes visit view.array) (index_list view)
    (All-weaker (λ p. p < element_count (array_row plan view.array).grid) (λ p. P (visit_at plan homes visit view.array p))
    (λ p lt at.
    let f : Element = record { array = view.array; pos = p } in
    let same : f ≡ e = same_element plan laid f e (record { array = inside.array; within = lt }) is.is (at ∙ is.number) in
    (ap (home_by plan homes) same ∙ sym is.home_is, refl))
    (index_list view) (positions_within (shape_in (array_row plan view.array)) view inside.shown))

alike_by : (plan : Plan) → IsLaidOut plan → (homes : List ℕ) (visit : Visit) (e : Element) (q home : ℕ) → IsElementOf plan homes e q home
    → (task : TaskRow) → IsWalkable plan task → AreAlike q visit home (visits_by plan homes visit task)
alike_by plan laid homes visit e q home is task walk =
    let P : ElementVisit → Type 0 = λ v. v.at ≡ q → (v.home ≡ home) × (v.visit ≡ visit) in
    All-flat_map P (access_visits plan homes visit) task.accesses
    (All-weaker (λ (a : AccessRow). IsViewIn plan a.view) (λ (a : AccessRow). All P (access_visits plan homes visit a))
    (λ a inside. All-cond P (is_of visit a.mode) (visits_of plan homes visit a.view) (alike_of plan laid homes visit e q home is a.view inside))
    task.accesses walk.views)

pub alike_tasks : (plan : Plan) → IsLaidOut plan → (homes : List ℕ) (visit : Visit) (e : Element) (q home : ℕ) → IsElementOf plan homes e q home
    → (tasks : List TaskRow) → All (IsWalkable plan) tasks → AreAlike q visit home (flat_map (visits_by plan homes visit) tasks)
alike_tasks plan laid homes visit e q home is tasks walk =
    let P : ElementVisit → Type 0 = λ v. v.at ≡ q → (v.home ≡ home) × (v.visit ≡ visit) in
    All-flat_map P (visits_by plan homes visit) tasks
    (All-weaker (IsWalkable plan) (λ (t : TaskRow). All P (visits_by plan homes visit t)) (λ t w. alike_by plan laid homes visit e q home is t w) tasks walk)

same_test : (first p q pos : ℕ) → q ≡ first + pos → eqb (first + p) q ≡ eqb p pos
same_test first p q pos e =
    ⊎_elim
    (λ (is : p ≡ pos). let a : eqb (first + p) q ≡ true = grind (arith, nat_tests) in let b : eqb p pos ≡ true = grind (arith, nat_tests) in a ∙ sym b)
    (λ (ne : p ≢ pos). let a : eqb (first + p) q ≡ false = grind (arith, nat_tests) in let b : eqb p pos ≡ false = grind (arith, nat_tests) in a ∙ sym b)
    (cases_eq p pos)

other_test : (a b : ℕ) → a ≢ b → eqb a b ≡ false
other_test a b ne = grind (arith, nat_tests)

-- the visits of a view are of the element where the view has it
it_of : (plan : Plan) → IsLaidOut plan → (homes : List ℕ) (visit : Visit) (e : Element) (q home : ℕ) → IsElementOf plan homes e q home
    → (access : AccessRow) → IsViewIn plan access.view → visits_it q (visits_of plan homes visit access.view) ≡ has access e
it_of plan laid homes visit e q home is access inside =
    let array : ℕ = access.view.array in
    let within = positions_within (shape_in (array_row plan array)) access.view inside.shown in
    list_any-map (λ (v : ElementVisit). eqb v.at q) (visit_at plan homes visit array) (index_list access.view)
    ∙ ⊎_elim
    (λ (same : array ≡ e.array).
    let test : eqb array e.array ≡ true = grind (arith, nat_tests) in
    let first = ap (λ (i : ℕ). (array_row plan i).first_element) same in
    list_any_same (λ p. eqb ((array_row plan array).first_element + p) q) (λ p. eqb p e.pos) (index_list access.view)
    (All-weaker (λ p. p < element_count (array_row plan array).grid) (λ p. eqb ((array_row plan array).first_element + p) q ≡ eqb p e.pos)
    (λ p lt. same_test (array_row plan array).first_element p q e.pos (is.number ∙ ap (λ (i : ℕ). i + e.pos) (sym first)))
    (index_list access.view) within)
    ∙ sym (ap (λ (b : Bool). b && list_any (λ p. eqb p e.pos) (index_list access.view)) test))
    (λ (ne : array ≢ e.array).
    let test : eqb array e.array ≡ false = grind (arith, nat_tests) in
    list_any_none (λ p. eqb ((array_row plan array).first_element + p) q) (index_list access.view)
    (All-weaker (λ p. p < element_count (array_row plan array).grid) (λ p. eqb ((array_row plan array).first_element + p) q ≡ false)
    (λ p lt. other_test ((array_row plan array).first_element + p) q
    (λ (e' : (array_row plan array).first_element + p ≡ q).
    let f : Element = record { array = array; pos = p } in
    ne (ap (λ (g : Element). g.array) (same_element plan laid f e (record { array = inside.array; within = lt }) is.is (e' ∙ is.number)))))
    (index_list access.view) within)
    ∙ sym (ap (λ (b : Bool). b && list_any (λ p. eqb p e.pos) (index_list access.view)) test))
    (cases_eq array e.array)

-- a task uses the element as the visit says
abbrev pub uses_as : Visit → TaskRow → Element → Bool
uses_as visit task e = list_any (λ (a : AccessRow). is_of visit a.mode && has a e) task.accesses

pub it_by : (plan : Plan) → IsLaidOut plan → (homes : List ℕ) (visit : Visit) (e : Element) (q home : ℕ) → IsElementOf plan homes e q home
    → (task : TaskRow) → IsWalkable plan task → visits_it q (visits_by plan homes visit task) ≡ uses_as visit task e
it_by plan laid homes visit e q home is task walk =
    let test : ElementVisit → Bool = λ v. eqb v.at q in
    list_any-flat_map test (access_visits plan homes visit) task.accesses
    ∙ list_any_same (λ (a : AccessRow). list_any test (access_visits plan homes visit a)) (λ (a : AccessRow). is_of visit a.mode && has a e) task.accesses
    (All-weaker (λ (a : AccessRow). IsViewIn plan a.view) (λ (a : AccessRow). list_any test (access_visits plan homes visit a) ≡ (is_of visit a.mode && has a e))
    (λ a inside.
    list_any-cond test (is_of visit a.mode) (visits_of plan homes visit a.view)
    ∙ ap (λ (b : Bool). is_of visit a.mode && b) (it_of plan laid homes visit e q home is a inside))
    task.accesses walk.views)

-- what one kind of visit makes of the element's mark, and what it moves
pub mark_by : (plan : Plan) → IsLaidOut plan → (homes : List ℕ) (visit : Visit) (e : Element) (q home : ℕ) → IsElementOf plan homes e q home
    → (task : TaskRow) → IsWalkable plan task → (m : ℕ) → element_mark q (visits_by plan homes visit task) m ≡ cond (uses_as visit task e) (mark_after visit home m) m
mark_by plan laid homes visit e q home is task walk m =
    mark_alike q visit home (visits_by plan homes visit task) m (alike_by plan laid homes visit e q home is task walk)
    ∙ ap (λ (b : Bool). cond b (mark_after visit home m) m) (it_by plan laid homes visit e q home is task walk)

pub moves_by : (plan : Plan) → IsLaidOut plan → (homes : List ℕ) (visit : Visit) (e : Element) (q home : ℕ) → IsElementOf plan homes e q home
    → (task : TaskRow) → IsWalkable plan task → (m : ℕ) → element_moves q (visits_by plan homes visit task) m ≡ cond (uses_as visit task e) (moves_at visit home m) 0
moves_by plan laid homes visit e q home is task walk m =
    moves_alike q visit home (visits_by plan homes visit task) m (alike_by plan laid homes visit e q home is task walk)
    ∙ ap (λ (b : Bool). cond b (moves_at visit home m) 0) (it_by plan laid homes visit e q home is task walk)
