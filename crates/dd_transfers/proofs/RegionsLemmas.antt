-- The visits of a region, as seen by one element: its history.
use Rattle.std.proofs.Common.{◌≡◌, ℕ, ◌+◌, Bool, true, false, eqb, cond, ◌&&◌, ◌||◌, List, [], ◌∷◌, length, map, refl, sym, ap, ◌∙◌, arith}
use Rattle.std.specs.List.{All, flat_map, list_any}
use Rattle.std.proofs.lemmas.List.Elements.{All-head, All-map, All-tail, All-weaker}
use Rattle.std.proofs.lemmas.List.Folds.{list_any-append}
use Rattle.dd_blocks.specs.declared.access_row.AccessRow.{AccessRow}
use Rattle.dd_blocks.specs.declared.plan.Plan.{Plan}
use Rattle.dd_blocks.specs.declared.task_row.TaskRow.{TaskRow}
use Rattle.dd_blocks.specs.Elements.{reads, writes, Element, has, task_reads, task_writes}
use Rattle.dd_blocks.specs.Layout.{IsLaidOut}
use Rattle.dd_blocks.specs.Numbered.{task_row}
use Rattle.dd_meaning.specs.Moves.{place_of}
use Rattle.dd_transfers.specs.declared.mark.Visit.TheVariants.{Read, Write, Leave}
use Rattle.dd_transfers.specs.Marks.{mark_after, moves_at}
use Rattle.dd_transfers.specs.Visits.{ElementVisit, IsWalkable, region_visits, space_of, task_visits, visits_by}
use Rattle.dd_transfers.proofs.ElementLemmas.{element_mark, element_mark-append, element_moves, element_moves-append, mark_alike, moves_alike, visits_it}
use Rattle.dd_transfers.proofs.HistoryLemmas.{History, next_mark, read_mark, read_moves, walk_moves}
use Rattle.dd_lists.proofs.ListsLemmas.{list_any-flat_map, list_any_same, list_any_weaker, or_false}
use Rattle.dd_transfers.proofs.MarksLemmas.{moves_again}
use Rattle.dd_transfers.proofs.TasksLemmas.{IsElementOf, alike_tasks, it_by, mark_by, moves_by, uses_as}

abbrev pub history : Plan → ℕ → Element → History
history plan home e = record {
  reads = λ t. task_reads (task_row plan t) e;
  writes = λ t. task_writes (task_row plan t) e;
  place = place_of plan;
  home = home;
  spaces = length plan.spaces;
}

-- one task
nothing_either_way : (b : Bool) → ◌≡◌ {A = ℕ} (cond b 0 0) 0
nothing_either_way true = refl
nothing_either_way false = refl

task_mark_read : (plan : Plan) → IsLaidOut plan → (homes : List ℕ) (e : Element) (q home : ℕ) → IsElementOf plan homes e q home → (t : ℕ) → IsWalkable plan (task_row plan t) → (m : ℕ)
    → element_mark q (visits_by plan homes (Read (place_of plan t)) (task_row plan t)) m ≡ read_mark (history plan home e) t m
task_mark_read plan laid homes e q home is t walk m = mark_by plan laid homes (Read (place_of plan t)) e q home is (task_row plan t) walk m

task_mark : (plan : Plan) → IsLaidOut plan → (homes : List ℕ) (e : Element) (q home : ℕ) → IsElementOf plan homes e q home → (t : ℕ) → IsWalkable plan (task_row plan t) → (m : ℕ)
    → element_mark q (task_visits plan homes (task_row plan t)) m ≡ next_mark (history plan home e) t m
task_mark plan laid homes e q home is t walk m =
    element_mark-append q (visits_by plan homes (Read (place_of plan t)) (task_row plan t)) (visits_by plan homes (Write (place_of plan t)) (task_row plan t)) m
    ∙ ap (element_mark q (visits_by plan homes (Write (place_of plan t)) (task_row plan t))) (task_mark_read plan laid homes e q home is t walk m)
    ∙ mark_by plan laid homes (Write (place_of plan t)) e q home is (task_row plan t) walk (read_mark (history plan home e) t m)

task_moves : (plan : Plan) → IsLaidOut plan → (homes : List ℕ) (e : Element) (q home : ℕ) → IsElementOf plan homes e q home → (t : ℕ) → IsWalkable plan (task_row plan t) → (m : ℕ)
    → element_moves q (task_visits plan homes (task_row plan t)) m ≡ read_moves (history plan home e) t m
task_moves plan laid homes e q home is t walk m =
    let read : List ElementVisit = visits_by plan homes (Read (place_of plan t)) (task_row plan t) in
    let write : List ElementVisit = visits_by plan homes (Write (place_of plan t)) (task_row plan t) in
    let both = element_moves-append q read write m in
    let first = moves_by plan laid homes (Read (place_of plan t)) e q home is (task_row plan t) walk m in
    let second = moves_by plan laid homes (Write (place_of plan t)) e q home is (task_row plan t) walk (element_mark q read m) ∙ nothing_either_way (task_writes (task_row plan t) e) in
    omega (arith, both, first, second)

-- all tasks, and then the end
tasks_moves : (plan : Plan) → IsLaidOut plan → (homes : List ℕ) (e : Element) (q home : ℕ) → IsElementOf plan homes e q home
    → (ts : List ℕ) → All (λ t. IsWalkable plan (task_row plan t)) ts → (m : ℕ)
    → element_moves q (flat_map (task_visits plan homes) (map (task_row plan) ts)) m + moves_at Leave home (element_mark q (flat_map (task_visits plan homes) (map (task_row plan) ts)) m)
    ≡ walk_moves (history plan home e) ts m
tasks_moves plan laid homes e q home is [] walk m = omega arith
tasks_moves plan laid homes e q home is (t ∷ ts) walk m =
    let P : ℕ → Type 0 = λ u. IsWalkable plan (task_row plan u) in
    let here = All-head P t ts walk in
    let one : List ElementVisit = task_visits plan homes (task_row plan t) in
    let rest : List ElementVisit = flat_map (task_visits plan homes) (map (task_row plan) ts) in
    let moves = element_moves-append q one rest m in
    let mark = element_mark-append q one rest m in
    let next = task_mark plan laid homes e q home is t here m in
    let moved = task_moves plan laid homes e q home is t here m in
    let more = tasks_moves plan laid homes e q home is ts (All-tail P t ts walk) (next_mark (history plan home e) t m) in
    omega (arith, moves, moved, more, ap (element_moves q rest) next, ap (λ (n : ℕ). moves_at Leave home n) (mark ∙ ap (element_mark q rest) next))

-- an element that nothing visits keeps its mark
mark_none : (q : ℕ) (vs : List ElementVisit) (m : ℕ) → visits_it q vs ≡ false → element_mark q vs m ≡ m
mark_none q [] m none = refl
mark_none q (v ∷ vs) m none =
    let both = or_false (eqb v.at q) (visits_it q vs) none in
    ap (λ (b : Bool). element_mark q vs (cond b (mark_after v.visit v.home m) m)) both.0 ∙ mark_none q vs m both.1

-- what the tasks do not use, they neither read nor write
and_false : (a b : Bool) → b ≡ false → (a && b) ≡ false
and_false true b e = e
and_false false b e = refl

neither : (e : Element) (space : ℕ) (task : TaskRow) → uses_as Leave task e ≡ false → (uses_as (Read space) task e || uses_as (Write space) task e) ≡ false
neither e space task none =
    let read = list_any_weaker (λ (a : AccessRow). reads a.mode && has a e) (λ (a : AccessRow). true && has a e) task.accesses (λ a n. and_false (reads a.mode) (has a e) n) none in
    let write = list_any_weaker (λ (a : AccessRow). writes a.mode && has a e) (λ (a : AccessRow). true && has a e) task.accesses (λ a n. and_false (writes a.mode) (has a e) n) none in
    ap (λ (b : Bool). b || uses_as (Write space) task e) read ∙ write

untouched : (plan : Plan) → IsLaidOut plan → (homes : List ℕ) (e : Element) (q home : ℕ) → IsElementOf plan homes e q home → (tasks : List TaskRow) → All (IsWalkable plan) tasks
    → visits_it q (flat_map (visits_by plan homes Leave) tasks) ≡ false → visits_it q (flat_map (task_visits plan homes) tasks) ≡ false
untouched plan laid homes e q home is tasks walk none =
    let test : ElementVisit → Bool = λ v. eqb v.at q in
    let leaves : TaskRow → Bool = λ t. uses_as Leave t e in
    let uses : TaskRow → Bool = λ t. uses_as (Read (space_of plan t)) t e || uses_as (Write (space_of plan t)) t e in
    let left : list_any leaves tasks ≡ false =
    sym (list_any-flat_map test (visits_by plan homes Leave) tasks
    ∙ list_any_same (λ (t : TaskRow). list_any test (visits_by plan homes Leave t)) leaves tasks
    (All-weaker (IsWalkable plan) (λ (t : TaskRow). list_any test (visits_by plan homes Leave t) ≡ leaves t) (λ t w. it_by plan laid homes Leave e q home is t w) tasks walk))
    ∙ none in
    list_any-flat_map test (task_visits plan homes) tasks
    ∙ list_any_same (λ (t : TaskRow). list_any test (task_visits plan homes t)) uses tasks
    (All-weaker (IsWalkable plan) (λ (t : TaskRow). list_any test (task_visits plan homes t) ≡ uses t)
    (λ t w.
    list_any-append test (visits_by plan homes (Read (space_of plan t)) t) (visits_by plan homes (Write (space_of plan t)) t)
    ∙ ap (λ (b : Bool). b || list_any test (visits_by plan homes (Write (space_of plan t)) t)) (it_by plan laid homes (Read (space_of plan t)) e q home is t w)
    ∙ ap (λ (b : Bool). uses_as (Read (space_of plan t)) t e || b) (it_by plan laid homes (Write (space_of plan t)) e q home is t w))
    tasks walk)
    ∙ list_any_weaker uses leaves tasks (λ t n. neither e (space_of plan t) t n) left

-- the end of the region
record Leaves (q home m : ℕ) (vs : List ElementVisit) : Type 0 where
  mark : element_mark q vs m ≡ 0
  moves : element_moves q vs m ≡ moves_at Leave home m

leaves_by : (plan : Plan) → IsLaidOut plan → (homes : List ℕ) (e : Element) (q home : ℕ) → IsElementOf plan homes e q home → (tasks : List TaskRow) → All (IsWalkable plan) tasks
    → (b : Bool) → visits_it q (flat_map (visits_by plan homes Leave) tasks) ≡ b
    → Leaves q home (element_mark q (flat_map (task_visits plan homes) tasks) 0) (flat_map (visits_by plan homes Leave) tasks)
leaves_by plan laid homes e q home is tasks walk true touched =
    let vs : List ElementVisit = flat_map (visits_by plan homes Leave) tasks in
    let m : ℕ = element_mark q (flat_map (task_visits plan homes) tasks) 0 in
    let alike = alike_tasks plan laid homes Leave e q home is tasks walk in
    record {
      mark = mark_alike q Leave home vs m alike ∙ ap (λ (b : Bool). cond b 0 m) touched;
      moves = moves_alike q Leave home vs m alike ∙ ap (λ (b : Bool). cond b (moves_at Leave home m) 0) touched;
    }
leaves_by plan laid homes e q home is tasks walk false touched =
    let vs : List ElementVisit = flat_map (visits_by plan homes Leave) tasks in
    let m : ℕ = element_mark q (flat_map (task_visits plan homes) tasks) 0 in
    let alike = alike_tasks plan laid homes Leave e q home is tasks walk in
    let zero_mark : m ≡ 0 = mark_none q (flat_map (task_visits plan homes) tasks) 0 (untouched plan laid homes e q home is tasks walk touched) in
    record {
      mark = mark_none q vs m touched ∙ zero_mark;
      moves = moves_alike q Leave home vs m alike ∙ ap (λ (b : Bool). cond b (moves_at Leave home m) 0) touched ∙ sym (ap (λ (n : ℕ). moves_at Leave home n) zero_mark ∙ moves_again Leave home 0);
    }

-- the visits of a region move the element as its history says, and leave no mark
pub region_moves : (plan : Plan) → IsLaidOut plan → (homes : List ℕ) (e : Element) (q home : ℕ) → IsElementOf plan homes e q home
    → (ts : List ℕ) → All (λ t. IsWalkable plan (task_row plan t)) ts
    → element_moves q (region_visits plan homes (map (task_row plan) ts)) 0 ≡ walk_moves (history plan home e) ts 0
region_moves plan laid homes e q home is ts walk =
    let tasks : List TaskRow = map (task_row plan) ts in
    let visits : List ElementVisit = flat_map (task_visits plan homes) tasks in
    let rows = All-map (IsWalkable plan) (task_row plan) ts walk in
    let left = leaves_by plan laid homes e q home is tasks rows (visits_it q (flat_map (visits_by plan homes Leave) tasks)) refl in
    let both = element_moves-append q visits (flat_map (visits_by plan homes Leave) tasks) 0 in
    omega (arith, both, left.moves, tasks_moves plan laid homes e q home is ts walk 0)

pub region_mark : (plan : Plan) → IsLaidOut plan → (homes : List ℕ) (e : Element) (q home : ℕ) → IsElementOf plan homes e q home
    → (ts : List ℕ) → All (λ t. IsWalkable plan (task_row plan t)) ts
    → element_mark q (region_visits plan homes (map (task_row plan) ts)) 0 ≡ 0
region_mark plan laid homes e q home is ts walk =
    let tasks : List TaskRow = map (task_row plan) ts in
    let visits : List ElementVisit = flat_map (task_visits plan homes) tasks in
    let rows = All-map (IsWalkable plan) (task_row plan) ts walk in
    let left = leaves_by plan laid homes e q home is tasks rows (visits_it q (flat_map (visits_by plan homes Leave) tasks)) refl in
    element_mark-append q visits (flat_map (visits_by plan homes Leave) tasks) 0 ∙ left.mark
