-- The visits of a region move what the region has to move, and leave no mark.
use Rattle.std.proofs.Common.{◌≡◌, ℕ, ◌+◌, ◌-◌, ◌<◌, ◌≤◌, List, length, get_or, replicate, take, refl, sym, ap, ◌∙◌, subst, arith, ◌^◌}
use Rattle.std.specs.List.{All, flat_map, range_with_len, sum_by}
use Rattle.std.proofs.lemmas.List.{ext_get_or, get_or-replicate, length-append, length-map, length-replicate}
use Rattle.std.proofs.lemmas.List.Concat.{length-flat_map}
use Rattle.std.proofs.lemmas.List.Elements.{All-append, All-map, All-weaker}
use Rattle.std.proofs.lemmas.List.Sums.{sum_by-le-sum_by}
use Rattle.dd_views.specs.IndexList.{index_list}
use Rattle.dd_blocks.specs.declared.access_row.AccessRow.{AccessRow}
use Rattle.dd_blocks.specs.declared.plan.Plan.{Plan}
use Rattle.dd_blocks.specs.declared.task_row.TaskRow.{TaskRow}
use Rattle.dd_blocks.specs.ArrayHomes.{AreMovedTo}
use Rattle.dd_blocks.specs.Charges.{access_elements}
use Rattle.dd_blocks.specs.Grids.{element_count}
use Rattle.dd_blocks.specs.Homes.{row_of_region}
use Rattle.dd_blocks.specs.Layout.{IsLaidOut, elements_in}
use Rattle.dd_blocks.specs.Lives.{tasks_of}
use Rattle.dd_blocks.specs.Numbered.{IsNumberIn, array_row, task_row}
use Rattle.dd_blocks.specs.Tasks.{shape_in}
use Rattle.dd_blocks.specs.PlanElements.{IsElement, elements, number_of}
use Rattle.dd_blocks.specs.WellFormed.{IsWellFormed}
use Rattle.dd_blocks.proofs.PlanElementsLemmas.{all_elements, element_numbered, sum_by_numbers}
use Rattle.dd_meaning.specs.Moves.{home_of, moved, moves_to, triples_of}
use Rattle.dd_blocks.specs.Elements.{Element}
use Rattle.dd_meaning.specs.Versions.{tasks_in}
use Rattle.dd_meaning.proofs.RegionTasksLemmas.{region_numbers}
use Rattle.dd_transfers.specs.declared.mark.Visit.{Visit}
use Rattle.dd_transfers.specs.declared.mark.Visit.TheVariants.{Read, Write, Leave}
use Rattle.dd_transfers.specs.Homes.{IsViewIn}
use Rattle.dd_transfers.specs.Visits.{ElementVisit, IsDone, IsWalkable, Visited, access_visits, is_of, marks_after, moves_along, region_visits, space_of, task_visits, visit_at, visits_by, visits_of}
use Rattle.dd_transfers.proofs.ElementLemmas.{element_mark, element_moves, get_or-marks_after, moves_along-sum}
use Rattle.dd_blocks.proofs.LayoutLemmas.{elements_within}
use Rattle.dd_lists.proofs.ListsLemmas.{All-cond, All-flat_map, length-cond}
use Rattle.dd_transfers.proofs.PlanLemmas.{home_is, is_history, walkable}
use Rattle.dd_transfers.proofs.RegionsLemmas.{region_mark, region_moves}
use Rattle.dd_lists.proofs.SumsLemmas.{sum_by-add, sum_by_same, sum_same}
use Rattle.dd_transfers.proofs.TasksLemmas.{IsElementOf}
use Rattle.dd_views.proofs.WithinLemmas.{positions_within}
use Rattle.dd_transfers.proofs.VersionsLemmas.{element_moves_is}
use Rattle.dd_meaning.proofs.RegionTasksLemmas.{tasks_of_numbered}
use Rattle.dd_transfers.proofs.VisitsLemmas.{length-marks_after, visited_few}

numbers_walkable : (plan : Plan) → IsWellFormed plan → (region : ℕ) → All (λ t. IsWalkable plan (task_row plan t)) (tasks_in plan region)
numbers_walkable plan well region = All-weaker (IsNumberIn plan.tasks) (λ t. IsWalkable plan (task_row plan t)) (walkable plan well) (tasks_in plan region) (region_numbers plan region)

pub tasks_walkable : (plan : Plan) → IsWellFormed plan → (region : ℕ) → All (IsWalkable plan) (tasks_of plan region)
tasks_walkable plan well region =
    subst (All (IsWalkable plan)) (sym (tasks_of_numbered plan region)) (All-map (IsWalkable plan) (task_row plan) (tasks_in plan region) (numbers_walkable plan well region))

-- ---- the visits are of elements that there are

abbrev Stays : Plan → ElementVisit → Type 0
Stays plan v = v.at < elements_in plan.arrays

by_stays : (plan : Plan) → IsLaidOut plan → (homes : List ℕ) (visit : Visit) (task : TaskRow) → IsWalkable plan task → All (Stays plan) (visits_by plan homes visit task)
by_stays plan laid homes visit task walk =
    All-flat_map (Stays plan) (access_visits plan homes visit) task.accesses
    (All-weaker (λ (a : AccessRow). IsViewIn plan a.view) (λ (a : AccessRow). All (Stays plan) (access_visits plan homes visit a))
    (λ a inside.
    All-cond (Stays plan) (is_of visit a.mode) (visits_of plan homes visit a.view)
    (All-map (Stays plan) (visit_at plan homes visit a.view.array) (index_list a.view)
    (All-weaker (λ p. p < element_count (array_row plan a.view.array).grid) (λ p. Stays plan (visit_at plan homes visit a.view.array p))
    (λ p lt. let most = elements_within plan laid a.view.array inside.array in let here : (array_row plan a.view.array).first_element + p < elements_in plan.arrays = omega (arith, most, lt) in here)
    (index_list a.view) (positions_within (shape_in (array_row plan a.view.array)) a.view inside.shown))))
    task.accesses walk.views)

region_stays : (plan : Plan) → IsLaidOut plan → (homes : List ℕ) (tasks : List TaskRow) → All (IsWalkable plan) tasks → All (Stays plan) (region_visits plan homes tasks)
region_stays plan laid homes tasks walk =
    All-append (Stays plan) (flat_map (task_visits plan homes) tasks) (flat_map (visits_by plan homes Leave) tasks)
    (All-flat_map (Stays plan) (task_visits plan homes) tasks
    (All-weaker (IsWalkable plan) (λ (t : TaskRow). All (Stays plan) (task_visits plan homes t))
    (λ t w. All-append (Stays plan) (visits_by plan homes (Read (space_of plan t)) t) (visits_by plan homes (Write (space_of plan t)) t)
    (by_stays plan laid homes (Read (space_of plan t)) t w) (by_stays plan laid homes (Write (space_of plan t)) t w))
    tasks walk))
    (All-flat_map (Stays plan) (visits_by plan homes Leave) tasks
    (All-weaker (IsWalkable plan) (λ (t : TaskRow). All (Stays plan) (visits_by plan homes Leave t)) (λ t w. by_stays plan laid homes Leave t w) tasks walk))

-- ---- one element, and all of them

element_is : (plan : Plan) → IsWellFormed plan → (region : ℕ) (homes : List ℕ) (e : Element) → IsElement plan e
    → AreMovedTo (length plan.arrays) (take (row_of_region plan region - 1) plan.statements) homes
    → IsElementOf plan homes e (number_of plan e) (home_of plan region e)
element_is plan well region homes e is found = record { is = is; number = refl; home_is = home_is plan well region homes e is found }

-- each element is moved as often as it has to be
moved_one : (plan : Plan) → IsWellFormed plan → (region : ℕ) → 1 ≤ region → (homes : List ℕ) (e : Element) → IsElement plan e
    → AreMovedTo (length plan.arrays) (take (row_of_region plan region - 1) plan.statements) homes
    → element_moves (number_of plan e) (region_visits plan homes (tasks_of plan region)) 0 ≡ triples_of plan region (moves_to plan region) e
moved_one plan well region low homes e is found =
    let q : ℕ = number_of plan e in
    ap (λ (rows : List TaskRow). element_moves q (region_visits plan homes rows) 0) (tasks_of_numbered plan region)
    ∙ region_moves plan well.layout homes e q (home_of plan region e) (element_is plan well region homes e is found) (tasks_in plan region) (numbers_walkable plan well region)
    ∙ element_moves_is plan region e low well.regions.tasks (is_history plan well region e is)

pub moved_is : (plan : Plan) → IsWellFormed plan → (region : ℕ) → 1 ≤ region → (homes : List ℕ)
    → AreMovedTo (length plan.arrays) (take (row_of_region plan region - 1) plan.statements) homes
    → moves_along (region_visits plan homes (tasks_of plan region)) (replicate (elements_in plan.arrays) 0) ≡ moved plan region
moved_is plan well region low homes found =
    let all : ℕ = elements_in plan.arrays in
    let visits : List ElementVisit = region_visits plan homes (tasks_of plan region) in
    let zeros : List ℕ = replicate all 0 in
    let many : length zeros ≡ all = length-replicate all 0 in
    let stay = subst (λ (n : ℕ). All (λ (v : ElementVisit). v.at < n) visits) (sym many) (region_stays plan well.layout homes (tasks_of plan region) (tasks_walkable plan well region)) in
    let f : ℕ → ℕ = λ q. element_moves q visits 0 in
    moves_along-sum visits zeros stay
    ∙ ap (λ (n : ℕ). sum_by (λ q. element_moves q visits (get_or zeros q 0)) (range_with_len 0 n)) many
    ∙ sum_same (λ q. element_moves q visits (get_or zeros q 0)) f 0 all (λ q l h. ap (element_moves q visits) (get_or-replicate all q 0 0 (omega arith)))
    ∙ sum_by_numbers plan well.layout f
    ∙ sum_by_same (λ e. f (number_of plan e)) (triples_of plan region (moves_to plan region)) (elements plan)
    (All-weaker (IsElement plan) (λ e. f (number_of plan e) ≡ triples_of plan region (moves_to plan region) e) (λ e is. moved_one plan well region low homes e is found) (elements plan) (all_elements plan))

-- ---- no mark is left

unmarked_one : (plan : Plan) → IsWellFormed plan → (region : ℕ) (homes : List ℕ) → AreMovedTo (length plan.arrays) (take (row_of_region plan region - 1) plan.statements) homes
    → (q : ℕ) → q < elements_in plan.arrays → element_mark q (region_visits plan homes (tasks_of plan region)) 0 ≡ 0
unmarked_one plan well region homes found q lt =
    let none : Element = record { array = 0; pos = 0 } in
    let e : Element = get_or (elements plan) q none in
    let at = element_numbered plan well.layout q none lt in
    ap (λ (k : ℕ). element_mark k (region_visits plan homes (tasks_of plan region)) 0) (sym at.number)
    ∙ ap (λ (rows : List TaskRow). element_mark (number_of plan e) (region_visits plan homes rows) 0) (tasks_of_numbered plan region)
    ∙ region_mark plan well.layout homes e (number_of plan e) (home_of plan region e) (element_is plan well region homes e at.is found) (tasks_in plan region) (numbers_walkable plan well region)

unmarked : (plan : Plan) → IsWellFormed plan → (region : ℕ) (homes : List ℕ) → AreMovedTo (length plan.arrays) (take (row_of_region plan region - 1) plan.statements) homes
    → marks_after (region_visits plan homes (tasks_of plan region)) (replicate (elements_in plan.arrays) 0) ≡ replicate (elements_in plan.arrays) 0
unmarked plan well region homes found =
    let all : ℕ = elements_in plan.arrays in
    let visits : List ElementVisit = region_visits plan homes (tasks_of plan region) in
    let zeros : List ℕ = replicate all 0 in
    let many : length zeros ≡ all = length-replicate all 0 in
    let kept = length-marks_after visits zeros in
    ext_get_or 0 (marks_after visits zeros) zeros kept
    (λ q lt.
    let inside : q < all = omega (arith, lt, kept, many) in
    get_or-marks_after visits zeros q (omega (arith, inside, many))
    ∙ ap (element_mark q visits) (get_or-replicate all q 0 0 inside)
    ∙ unmarked_one plan well region homes found q inside
    ∙ sym (get_or-replicate all q 0 0 inside))

-- ---- the visits are few

by_few : (plan : Plan) (homes : List ℕ) (visit : Visit) (task : TaskRow) → length (visits_by plan homes visit task) ≤ access_elements task
by_few plan homes visit task =
    let all = length-flat_map (access_visits plan homes visit) task.accesses in
    let few = sum_by-le-sum_by (λ (a : AccessRow). length (access_visits plan homes visit a)) (λ (a : AccessRow). length (index_list a.view)) task.accesses
    (λ a. let less = length-cond (is_of visit a.mode) (visits_of plan homes visit a.view) in
    let many = length-map (index_list a.view) (visit_at plan homes visit a.view.array) in
    let le : length (access_visits plan homes visit a) ≤ length (index_list a.view) = omega (arith, less, many) in le) in
    omega (arith, all, few)

task_few : (plan : Plan) (homes : List ℕ) (task : TaskRow) → length (task_visits plan homes task) ≤ access_elements task + access_elements task
task_few plan homes task =
    omega (
      arith,
      length-append (visits_by plan homes (Read (space_of plan task)) task) (visits_by plan homes (Write (space_of plan task)) task),
      by_few plan homes (Read (space_of plan task)) task,
      by_few plan homes (Write (space_of plan task)) task,
    )

pub region_few : (plan : Plan) → IsWellFormed plan → (region : ℕ) (homes : List ℕ) → length (region_visits plan homes (tasks_of plan region)) ≤ 2 ^ 28
region_few plan well region homes =
    let tasks : List TaskRow = tasks_of plan region in
    let most : sum_by access_elements tasks ≤ 67108864 = (well.limits.each_region region).elements in
    let used = length-flat_map (task_visits plan homes) tasks in
    let left = length-flat_map (visits_by plan homes Leave) tasks in
    let twice : TaskRow → ℕ = λ t. access_elements t + access_elements t in
    let used_few = sum_by-le-sum_by (λ (t : TaskRow). length (task_visits plan homes t)) twice tasks (task_few plan homes) in
    let left_few = sum_by-le-sum_by (λ (t : TaskRow). length (visits_by plan homes Leave t)) access_elements tasks (by_few plan homes Leave) in
    let both = sum_by-add access_elements access_elements tasks in
    omega (arith, most, used, left, used_few, left_few, both, length-append (flat_map (task_visits plan homes) tasks) (flat_map (visits_by plan homes Leave) tasks))

-- ---- all of it

pub is_done : (plan : Plan) → IsWellFormed plan → (region : ℕ) → 1 ≤ region → (homes : List ℕ) → AreMovedTo (length plan.arrays) (take (row_of_region plan region - 1) plan.statements) homes
    → (old new : List ℕ) (tasks : List TaskRow) (result : ℕ) → tasks ≡ tasks_of plan region → old ≡ replicate (elements_in plan.arrays) 0
    → Visited (region_visits plan homes tasks) old new result → IsDone plan region new result
is_done plan well region low homes found old new tasks result rows unmarked_old visited =
    let marks = ap (λ (ts : List TaskRow). marks_after (region_visits plan homes ts) old) rows ∙ ap (marks_after (region_visits plan homes (tasks_of plan region))) unmarked_old in
    let count = ap (λ (ts : List TaskRow). moves_along (region_visits plan homes ts) old) rows ∙ ap (moves_along (region_visits plan homes (tasks_of plan region))) unmarked_old in
    let few = visited_few (region_visits plan homes tasks) old new result visited in
    let less = region_few plan well region homes in
    record {
      value = visited.count ∙ count ∙ moved_is plan well region low homes found;
      few = omega (arith, few, less, ap (λ (ts : List TaskRow). length (region_visits plan homes ts)) rows);
      rest = visited.marks ∙ marks ∙ unmarked plan well region homes found;
    }
