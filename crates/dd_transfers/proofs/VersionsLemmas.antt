-- The versions of an element in a region, and what they have to be moved, by the element's history.
use Rattle.std.proofs.Common.{◌≡◌, ◌≢◌, ℕ, zero, suc, ◌+◌, ◌-◌, ◌<◌, ◌≤◌, Bool, true, false, eqb, cond, not, ◌&&◌, ◌||◌, List, ◌∷◌, length, refl, sym, ap, ◌∙◌, arith, ⊎_elim}
use Rattle.std.specs.List.{filter, list_any, range_with_len, sum_by}
use Rattle.std.specs.List.Sorted.{IsNonDecreasingBy}
use Rattle.std.proofs.lemmas.Bool.{cases_eq}
use Rattle.std.proofs.lemmas.Bool.Decides.{nat_tests}
use Rattle.std.proofs.lemmas.List.Sums.{sum_by-cons}
use Rattle.dd_blocks.specs.declared.plan.Plan.{Plan}
use Rattle.dd_blocks.specs.declared.task_row.TaskRow.{TaskRow}
use Rattle.dd_blocks.specs.Numbered.{task_row}
use Rattle.dd_meaning.specs.Moves.{home_of, is_kept_in, is_read_in, moves_to, place_of, source_of, triples_of, triples_of_version, versions_in}
use Rattle.dd_blocks.specs.Elements.{Element, task_reads}
use Rattle.dd_meaning.specs.Versions.{last_writer, needed_version, opening_version, tasks_in, tasks_through, latest}
use Rattle.dd_meaning.proofs.RegionTasksLemmas.{count_le, tasks_run}
use Rattle.dd_transfers.proofs.HistoryLemmas.{History, IsHistory, is_read, is_wanted, missing, sent, walk_is, walk_moves}
use Rattle.dd_meaning.proofs.LatestLemmas.{latest_le}
use Rattle.dd_lists.proofs.SumsLemmas.{sum_same}
use Rattle.dd_transfers.proofs.MarksLemmas.{holds, holds_first}
use Rattle.dd_transfers.proofs.RegionsLemmas.{history}

-- ---- where versions are made and wanted

not_among : (v a n : ℕ) → v < a → list_any (λ t. eqb t v) (range_with_len a n) ≡ false
not_among v a zero lt = refl
not_among v a (suc n) lt =
    let test : eqb a v ≡ false = grind (arith, nat_tests) in
    ap (λ (b : Bool). b || list_any (λ t. eqb t v) (range_with_len (a + 1) n)) test ∙ not_among v (a + 1) n (omega arith)

is_among : (v a n : ℕ) → a ≤ v → v < a + n → list_any (λ t. eqb t v) (range_with_len a n) ≡ true
is_among v a zero low high = absurd (omega arith)
is_among v a (suc n) low high =
    ⊎_elim
    (λ (e : a ≡ v). let test : eqb a v ≡ true = grind (arith, nat_tests) in ap (λ (b : Bool). b || list_any (λ t. eqb t v) (range_with_len (a + 1) n)) test)
    (λ (ne : a ≢ v).
    let test : eqb a v ≡ false = grind (arith, nat_tests) in
    ap (λ (b : Bool). b || list_any (λ t. eqb t v) (range_with_len (a + 1) n)) test ∙ is_among v (a + 1) n (omega arith) (omega arith))
    (cases_eq a v)

-- a region's tasks stand from the number behind k on, n of them
record IsRun (plan : Plan) (region k n : ℕ) : Type 0 where
  tasks : tasks_in plan region ≡ range_with_len (k + 1) n
  before : tasks_through plan (region - 1) ≡ k
  end : tasks_through plan region ≡ k + n

wanted_is : (plan : Plan) (region k n : ℕ) (e : Element) → IsRun plan region k n → (version s : ℕ)
    → (is_read_in plan region e version s || is_kept_in plan region e version s)
    ≡ is_wanted (history plan (home_of plan region e) e) (latest (history plan (home_of plan region e) e).writes (k + n)) version s (range_with_len (k + 1) n)
wanted_is plan region k n e run version s =
    let home : ℕ = home_of plan region e in
    let h : History = history plan home e in
    let ts : List ℕ = range_with_len (k + 1) n in
    let p : ℕ → Bool = λ t. eqb (place_of plan t) s && task_reads (task_row plan t) e && eqb (needed_version plan e t) version in
    let read : is_read_in plan region e version s ≡ is_read h version s ts =
    ap (list_any p) run.tasks in
    let kept : is_kept_in plan region e version s ≡ (eqb h.home s && eqb (latest h.writes (k + n)) version) =
    ap (λ (v : ℕ). eqb home s && eqb v version) (ap (last_writer plan e) run.end) in
    ap (λ (b : Bool). b || is_kept_in plan region e version s) read ∙ ap (λ (b : Bool). is_read h version s ts || b) kept

-- the version with which a region begins is made in the home
first_moves : (plan : Plan) (region k n : ℕ) (e : Element) → IsRun plan region k n → 1 ≤ home_of plan region e → (version : ℕ) → version ≤ k
    → triples_of_version plan (moves_to plan region e) version
    ≡ missing (history plan (home_of plan region e) e) (latest (history plan (home_of plan region e) e).writes (k + n)) 0 version (range_with_len (k + 1) n)
first_moves plan region k n e run low version le =
    let home : ℕ = home_of plan region e in
    let h : History = history plan home e in
    let ts : List ℕ = range_with_len (k + 1) n in
    let last : ℕ = latest h.writes (k + n) in
    let source : source_of plan region e version ≡ home =
    ap (λ (xs : List ℕ). cond (list_any (λ t. eqb t version) xs) (place_of plan version) home) run.tasks
    ∙ ap (λ (b : Bool). cond b (place_of plan version) home) (not_among version (k + 1) n (omega arith)) in
    sum_same (λ s. cond (moves_to plan region e version s) 1 0) (λ s. cond (not (holds home 0 s) && is_wanted h last version s ts) 1 0) 1 (length plan.spaces)
    (λ s l g.
    ap (λ (b : Bool). cond (not (eqb (source_of plan region e version) s) && b) 1 0) (wanted_is plan region k n e run version s)
    ∙ ap (λ (x : ℕ). cond (not (eqb x s) && is_wanted h last version s ts) 1 0) source
    ∙ ap (λ (b : Bool). cond (not b && is_wanted h last version s ts) 1 0) (sym (holds_first home s low l)))

-- and one that a task writes in the task's space
later_moves : (plan : Plan) (region k n : ℕ) (e : Element) → IsRun plan region k n → (version : ℕ) → k + 1 ≤ version → version < k + 1 + n
    → triples_of_version plan (moves_to plan region e) version
    ≡ sent (history plan (home_of plan region e) e) (latest (history plan (home_of plan region e) e).writes (k + n)) version (range_with_len (k + 1) n)
later_moves plan region k n e run version low high =
    let home : ℕ = home_of plan region e in
    let h : History = history plan home e in
    let ts : List ℕ = range_with_len (k + 1) n in
    let last : ℕ = latest h.writes (k + n) in
    let source : source_of plan region e version ≡ place_of plan version =
    ap (λ (xs : List ℕ). cond (list_any (λ t. eqb t version) xs) (place_of plan version) home) run.tasks
    ∙ ap (λ (b : Bool). cond b (place_of plan version) home) (is_among version (k + 1) n low high) in
    sum_same (λ s. cond (moves_to plan region e version s) 1 0) (λ s. cond (not (eqb (h.place version) s) && is_wanted h last version s ts) 1 0) 1 (length plan.spaces)
    (λ s l g.
    ap (λ (b : Bool). cond (not (eqb (source_of plan region e version) s) && b) 1 0) (wanted_is plan region k n e run version s)
    ∙ ap (λ (x : ℕ). cond (not (eqb x s) && is_wanted h last version s ts) 1 0) source)

sum_filter_same : (f g : ℕ → ℕ) (p : ℕ → Bool) (a n : ℕ) → ((x : ℕ) → a ≤ x → x < a + n → f x ≡ g x) → sum_by f (filter p (range_with_len a n)) ≡ sum_by g (filter p (range_with_len a n))
sum_filter_same f g p a zero same = refl
sum_filter_same f g p a (suc n) same =
    let more = sum_filter_same f g p (a + 1) n (λ x low high. same x (omega arith) (omega arith)) in
    let here = same a (omega arith) (omega arith) in
    let rest : List ℕ = filter p (range_with_len (a + 1) n) in
    elim (p a) as (λ (b : Bool). sum_by f (cond b (a ∷ rest) rest) ≡ sum_by g (cond b (a ∷ rest) rest))
    [ true ↦ omega (arith, sum_by-cons f a rest, sum_by-cons g a rest, here, more) | false ↦ more ]

-- what the walk of an element's history moves is what its versions have to be moved
run_moves : (plan : Plan) (region k n : ℕ) (e : Element) → IsRun plan region k n → IsHistory (history plan (home_of plan region e) e)
    → walk_moves (history plan (home_of plan region e) e) (range_with_len (k + 1) n) 0 ≡ triples_of plan region (moves_to plan region) e
run_moves plan region k n e run is =
    let home : ℕ = home_of plan region e in
    let h : History = history plan home e in
    let ts : List ℕ = range_with_len (k + 1) n in
    let last : ℕ = latest h.writes (k + n) in
    let opening : opening_version plan region e ≡ latest h.writes k = ap (last_writer plan e) run.before in
    let f : ℕ → ℕ = triples_of_version plan (moves_to plan region e) in
    let first = first_moves plan region k n e run is.home_low (latest h.writes k) (latest_le h.writes k) in
    let later = sum_filter_same f (λ u. sent h last u ts) h.writes (k + 1) n (λ u low high. later_moves plan region k n e run u low high) in
    let versions : versions_in plan region e ≡ latest h.writes k ∷ filter h.writes ts =
    ap (λ (v : ℕ). v ∷ filter h.writes (tasks_in plan region)) opening ∙ ap (λ (xs : List ℕ). latest h.writes k ∷ filter h.writes xs) run.tasks in
    let all = ap (sum_by f) versions in
    let walk = walk_is h is n k 0 last refl in
    omega (arith, first, later, all, walk, sum_by-cons f (latest h.writes k) (filter h.writes ts))

element_run : (plan : Plan) (region : ℕ) → 1 ≤ region → IsNonDecreasingBy (λ (t : TaskRow). t.region) plan.tasks
    → IsRun plan region (tasks_through plan (region - 1)) (tasks_through plan region - tasks_through plan (region - 1))
element_run plan region low rises =
    let le = count_le plan region in
    record { tasks = tasks_run plan region low rises; before = refl; end = omega (arith, le) }

pub element_moves_is : (plan : Plan) (region : ℕ) (e : Element) → 1 ≤ region → IsNonDecreasingBy (λ (t : TaskRow). t.region) plan.tasks → IsHistory (history plan (home_of plan region e) e)
    → walk_moves (history plan (home_of plan region e) e) (tasks_in plan region) 0 ≡ triples_of plan region (moves_to plan region) e
element_moves_is plan region e low rises is =
    let run = element_run plan region low rises in
    ap (λ (ts : List ℕ). walk_moves (history plan (home_of plan region e) e) ts 0) run.tasks
    ∙ run_moves plan region (tasks_through plan (region - 1)) (tasks_through plan region - tasks_through plan (region - 1)) e run is
