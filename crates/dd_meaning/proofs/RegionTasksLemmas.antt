-- The tasks of a region stand one after the other.
use Rattle.std.proofs.Common.{◌≡◌, ℕ, zero, suc, ◌+◌, ◌-◌, ◌<◌, ◌≤◌, Bool, true, false, cond, eqb, leb, List, [], ◌∷◌, ◌++◌, length, map, take, get_or, refl, sym, ap, subst, ◌∙◌, arith, ⊎_elim}
use Rattle.std.specs.List.{All, count_by, filter, fold, range_with_len, sum_by}
use Rattle.std.specs.List.Sorted.{IsNonDecreasingBy}
use Rattle.std.proofs.lemmas.Bool.{cases_lt}
use Rattle.std.proofs.lemmas.Bool.Decides.{nat_tests}
use Rattle.std.proofs.lemmas.List.{get_or_default, same_lists}
use Rattle.std.proofs.lemmas.List.Elements.{All-filter, All-get_or}
use Rattle.std.proofs.lemmas.List.FromFn.{get_or-map-range_with_len, get_or-range_with_len, length-map-range_with_len, length-range_with_len}
use Rattle.std.proofs.lemmas.List.Sums.{fold-append, sum_by-cons, sum_by-le-sum_by}
use Rattle.dd_lists.proofs.ListsLemmas.{filter-map}
use Rattle.dd_lists.proofs.SumsLemmas.{sum_by-map, sum_zero}
use Rattle.dd_blocks.specs.declared.plan.Plan.{Plan}
use Rattle.dd_blocks.specs.declared.proc_row.ProcRow.{ProcRow}
use Rattle.dd_blocks.specs.declared.task_row.TaskRow.{TaskRow}
use Rattle.dd_blocks.specs.Lives.{tasks_of}
use Rattle.dd_blocks.specs.Numbered.{IsNumberIn, no_task, task_row}
use Rattle.dd_blocks.specs.WellFormed.{IsWellFormed}
use Rattle.dd_blocks.proofs.NumberedLemmas.{numbered-get, task_names_rows}
use Rattle.dd_meaning.specs.Moves.{place_of}
use Rattle.dd_meaning.specs.Steps.{step, world_after}
use Rattle.dd_meaning.specs.Versions.{tasks_in, tasks_through}
use Rattle.dd_meaning.specs.Worlds.{filled_world}

-- ---- by their rows

-- tasks that stand region by region
abbrev pub Rising : List TaskRow → Type 0
Rising tasks = IsNonDecreasingBy (λ (t : TaskRow). t.region) tasks

pub rising_tail : (t : TaskRow) (more : List TaskRow) → Rising (t ∷ more) → Rising more
rising_tail t more h = λ i j d le lt. h (suc i) (suc j) d (omega arith) (omega (arith, lt))

later : (t : TaskRow) (more : List TaskRow) (n : ℕ) → Rising (t ∷ more) → n ≤ t.region → All (λ (u : TaskRow). n ≤ u.region) more
later t more n h le = λ k d lt. omega (arith, le, h 0 (suc k) d (omega arith) (omega (arith, lt)))

pub all_later : (t : TaskRow) (more : List TaskRow) (n : ℕ) → Rising (t ∷ more) → n ≤ t.region → All (λ (u : TaskRow). n ≤ u.region) (t ∷ more)
all_later t more n h le = λ k d lt. omega (arith, le, h 0 k d (omega arith) lt)

-- how many tasks there are up to a region
abbrev pub through : ℕ → List TaskRow → ℕ
through n tasks = count_by (λ (t : TaskRow). leb t.region n) tasks

through_cons : (n : ℕ) (t : TaskRow) (more : List TaskRow) → through n (t ∷ more) ≡ cond (leb t.region n) 1 0 + through n more
through_cons n t more = sum_by-cons (λ (u : TaskRow). cond (leb u.region n) 1 0) t more

pub through_yes : (n : ℕ) (t : TaskRow) (more : List TaskRow) → t.region ≤ n → through n (t ∷ more) ≡ suc (through n more)
through_yes n t more le = let hit : leb t.region n ≡ true = grind (arith, nat_tests) in through_cons n t more ∙ (rw hit (omega arith))

pub through_no : (n : ℕ) (t : TaskRow) (more : List TaskRow) → n < t.region → through n (t ∷ more) ≡ through n more
through_no n t more gt = let miss : leb t.region n ≡ false = grind (arith, nat_tests) in through_cons n t more ∙ (rw miss (omega arith))

pub through_none : (n : ℕ) (tasks : List TaskRow) → All (λ (u : TaskRow). suc n ≤ u.region) tasks → through n tasks ≡ 0
through_none n [] h = refl
through_none n (t ∷ more) h = through_no n t more (h 0 t (omega arith)) ∙ through_none n more (λ k d lt. h (suc k) d (omega (arith, lt)))

abbrev in_region : ℕ → List TaskRow → List TaskRow
in_region region tasks = filter (λ (t : TaskRow). eqb t.region region) tasks

in_none : (region : ℕ) (tasks : List TaskRow) → All (λ (u : TaskRow). suc region ≤ u.region) tasks → in_region region tasks ≡ []
in_none region [] h = refl
in_none region (t ∷ more) h =
    let gt : suc region ≤ t.region = h 0 t (omega arith) in
    let miss : eqb t.region region ≡ false = grind (arith, nat_tests) in
    rw miss (in_none region more (λ k d lt. h (suc k) d (omega (arith, lt))))

-- the tasks up to a region are those up to the one before it and its own
parts : (r : ℕ) (tasks : List TaskRow) → Rising tasks → take (through (suc r) tasks) tasks ≡ take (through r tasks) tasks ++ in_region (suc r) tasks
parts r [] rises = refl
parts r (t ∷ more) rises =
    let rest = parts r more (rising_tail t more rises) in
    ⊎_elim
    (λ (below : t.region < suc r).
    let miss : eqb t.region (suc r) ≡ false = grind (arith, nat_tests) in
    let up = through_yes (suc r) t more (omega (arith, below)) in
    let low = through_yes r t more (omega (arith, below)) in
    rw (up, low, miss) (ap (λ l. t ∷ l) rest))
    (λ (not_below : suc r ≤ t.region). ⊎_elim
    (λ (above : suc r < t.region).
    let miss : eqb t.region (suc r) ≡ false = grind (arith, nat_tests) in
    let up = through_none (suc r) (t ∷ more) (all_later t more (suc (suc r)) rises (omega (arith, above))) in
    let low = through_none r (t ∷ more) (all_later t more (suc r) rises (omega (arith, above))) in
    let none = in_none (suc r) (t ∷ more) (all_later t more (suc (suc r)) rises (omega (arith, above))) in
    rw (up, low, none) refl)
    (λ (not_above : t.region ≤ suc r).
    let hit : eqb t.region (suc r) ≡ true = grind (arith, nat_tests) in
    let up = through_yes (suc r) t more not_above in
    let low = through_none r (t ∷ more) (all_later t more (suc r) rises not_below) in
    let none = through_none r more (later t more (suc r) rises not_below) in
    rw (up, low, hit) (ap (λ l. t ∷ l) (rest ∙ ap (λ (n : ℕ). take n more ++ in_region (suc r) more) none)))
    (cases_lt (suc r) t.region))
    (cases_lt t.region (suc r))

world_next : (plan : Plan) (r : ℕ) → Rising plan.tasks → fold step (world_after plan (tasks_through plan r)) (tasks_of plan (suc r)) ≡ world_after plan (tasks_through plan (suc r))
world_next plan r rises =
    sym (fold-append step (filled_world plan) (take (through r plan.tasks) plan.tasks) (in_region (suc r) plan.tasks))
    ∙ ap (fold step (filled_world plan)) (sym (parts r plan.tasks rises))

pub region_next : (plan : Plan) (region : ℕ) → 1 ≤ region → IsNonDecreasingBy (λ (t : TaskRow). t.region) plan.tasks → fold step (world_after plan (tasks_through plan (region - 1))) (tasks_of plan region) ≡ world_after plan (tasks_through plan region)
region_next plan zero low rises = absurd (omega arith)
region_next plan (suc r) low rises = let same : suc r - 1 ≡ r = omega arith in rw same (world_next plan r rises)

-- before the first region
pub none_through : (plan : Plan) → IsWellFormed plan → tasks_through plan 0 ≡ 0
none_through plan well = through_none 0 plan.tasks (λ k d lt. (well.names.tasks k d lt).region.0)

-- ---- by their numbers

-- some numbers, along which a key does not fall
abbrev Rises : (ℕ → ℕ) → ℕ → ℕ → Type 0
Rises f a n = (i j : ℕ) → a ≤ i → i ≤ j → j < a + n → f i ≤ f j

abbrev below : (ℕ → ℕ) → ℕ → ℕ → ℕ → ℕ
below f r a n = count_by (λ t. leb (f t) r) (range_with_len a n)

none_below : (f : ℕ → ℕ) (r a n : ℕ) → ((t : ℕ) → a ≤ t → t < a + n → r < f t) → below f r a n ≡ 0
none_below f r a n above =
    sum_zero (λ t. cond (leb (f t) r) 1 0) a n
    (λ t low high. let lt : r < f t = above t low high in let test : leb (f t) r ≡ false = grind (arith, nat_tests) in ap (λ (b : Bool). cond b 1 0) test)

one_more : (f : ℕ → ℕ) (r a n : ℕ) → f a ≤ r → below f r a (suc n) ≡ suc (below f r (a + 1) n)
one_more f r a n le =
    let test : leb (f a) r ≡ true = grind (arith, nat_tests) in
    let one : ◌≡◌ {A = ℕ} (cond (leb (f a) r) 1 0) 1 = ap (λ (b : Bool). cond b 1 0) test in
    omega (arith, one, sum_by-cons (λ t. cond (leb (f t) r) 1 0) a (range_with_len (a + 1) n))

filter_here : (p : ℕ → Bool) (a : ℕ) (xs : List ℕ) (b : Bool) → p a ≡ b → filter p (a ∷ xs) ≡ cond b (a ∷ filter p xs) (filter p xs)
filter_here p a xs b e = ap (λ (t : Bool). cond t (a ∷ filter p xs) (filter p xs)) e

in_one_run : (f : ℕ → ℕ) (r a n : ℕ) → 1 ≤ r → Rises f a n
    → filter (λ t. eqb (f t) r) (range_with_len a n) ≡ range_with_len (a + below f (r - 1) a n) (below f r a n - below f (r - 1) a n)
in_one_run f r a zero low rises = refl
in_one_run f r a (suc n) low rises =
    let rest = in_one_run f r (a + 1) n low (λ i j ai ij jn. rises i j (omega arith) ij (omega arith)) in
    let p : ℕ → Bool = λ t. eqb (f t) r in
    let xs : List ℕ = range_with_len (a + 1) n in
    ⊎_elim
    (λ (lt : f a < r).
    let test : eqb (f a) r ≡ false = grind (arith, nat_tests) in
    let low_more = one_more f (r - 1) a n (omega arith) in
    let high_more = one_more f r a n (omega arith) in
    let begin : a + 1 + below f (r - 1) (a + 1) n ≡ a + below f (r - 1) a (suc n) = omega (arith, low_more) in
    let many : below f r (a + 1) n - below f (r - 1) (a + 1) n ≡ below f r a (suc n) - below f (r - 1) a (suc n) = omega (arith, low_more, high_more) in
    filter_here p a xs false test ∙ rest ∙ ap (λ (b : ℕ). range_with_len b (below f r (a + 1) n - below f (r - 1) (a + 1) n)) begin
    ∙ ap (range_with_len (a + below f (r - 1) a (suc n))) many)
    (λ (ge : r ≤ f a).
    let none : below f (r - 1) a (suc n) ≡ 0 = none_below f (r - 1) a (suc n) (λ t l h. let up = rises a t (omega arith) l h in let o : r - 1 < f t = omega (arith, up) in o) in
    let none_rest : below f (r - 1) (a + 1) n ≡ 0 = none_below f (r - 1) (a + 1) n (λ t l h. let up = rises a t (omega arith) (omega arith) (omega arith) in let o : r - 1 < f t = omega (arith, up) in o) in
    ⊎_elim
    (λ (gt : r < f a).
    let test : eqb (f a) r ≡ false = grind (arith, nat_tests) in
    let high : below f r a (suc n) ≡ 0 = none_below f r a (suc n) (λ t l h. let up = rises a t (omega arith) l h in let o : r < f t = omega (arith, up) in o) in
    let high_rest : below f r (a + 1) n ≡ 0 = none_below f r (a + 1) n (λ t l h. let up = rises a t (omega arith) (omega arith) (omega arith) in let o : r < f t = omega (arith, up) in o) in
    let many : below f r (a + 1) n - below f (r - 1) (a + 1) n ≡ 0 = omega (arith, high_rest) in
    let none_left : below f r a (suc n) - below f (r - 1) a (suc n) ≡ 0 = omega (arith, high) in
    filter_here p a xs false test ∙ rest ∙ ap (range_with_len (a + 1 + below f (r - 1) (a + 1) n)) many ∙ sym (ap (range_with_len (a + below f (r - 1) a (suc n))) none_left))
    (λ (le : f a ≤ r).
    let is : f a ≡ r = omega arith in
    let test : eqb (f a) r ≡ true = grind (arith, nat_tests) in
    let high_more = one_more f r a n le in
    let begin : a + 1 + below f (r - 1) (a + 1) n ≡ a + 1 = omega (arith, none_rest) in
    let many : below f r (a + 1) n - below f (r - 1) (a + 1) n ≡ below f r (a + 1) n = omega (arith, none_rest) in
    let begin_whole : a + below f (r - 1) a (suc n) ≡ a = omega (arith, none) in
    let many_whole : below f r a (suc n) - below f (r - 1) a (suc n) ≡ suc (below f r (a + 1) n) = omega (arith, none, high_more) in
    filter_here p a xs true test
    ∙ ap (λ (ys : List ℕ). a ∷ ys) (rest ∙ ap (λ (b : ℕ). range_with_len b (below f r (a + 1) n - below f (r - 1) (a + 1) n)) begin ∙ ap (range_with_len (a + 1)) many)
    ∙ sym (ap (λ (b : ℕ). range_with_len b (below f r a (suc n) - below f (r - 1) a (suc n))) begin_whole ∙ ap (range_with_len a) many_whole))
    (cases_lt r (f a)))
    (cases_lt (f a) r)

-- the tasks of a Plan by their numbers
tasks_numbered : (plan : Plan) → plan.tasks ≡ map (task_row plan) (range_with_len 1 (length plan.tasks))
tasks_numbered plan =
    same_lists plan.tasks (map (task_row plan) (range_with_len 1 (length plan.tasks))) (sym (length-map-range_with_len (task_row plan) 1 (length plan.tasks)))
    (λ k d lt.
    sym (get_or-map-range_with_len (task_row plan) 1 (length plan.tasks) k (1 + k) d lt refl
    ∙ numbered-get no_task plan.tasks (1 + k) (omega arith)
    ∙ ap (λ (i : ℕ). get_or plan.tasks i no_task) (let e : 1 + k - 1 ≡ k = omega arith in e)
    ∙ get_or_default plan.tasks k no_task d lt))

pub tasks_of_numbered : (plan : Plan) (region : ℕ) → tasks_of plan region ≡ map (task_row plan) (tasks_in plan region)
tasks_of_numbered plan region =
    let p : TaskRow → Bool = λ t. eqb t.region region in
    ap (filter p) (tasks_numbered plan) ∙ filter-map p (task_row plan) (range_with_len 1 (length plan.tasks))

numbered_through : (plan : Plan) (region : ℕ) → tasks_through plan region ≡ below (λ t. (task_row plan t).region) region 1 (length plan.tasks)
numbered_through plan region =
    let g : TaskRow → ℕ = λ t. cond (leb t.region region) 1 0 in
    ap (sum_by g) (tasks_numbered plan) ∙ sum_by-map g (task_row plan) (range_with_len 1 (length plan.tasks))

region_rises : (plan : Plan) → IsNonDecreasingBy (λ (t : TaskRow). t.region) plan.tasks → Rises (λ t. (task_row plan t).region) 1 (length plan.tasks)
region_rises plan rises i j low le high =
    let a = numbered-get no_task plan.tasks i low in
    let b = numbered-get no_task plan.tasks j (omega arith) in
    let up = rises (i - 1) (j - 1) no_task (omega arith) (omega arith) in
    omega (arith, up, ap (λ (t : TaskRow). t.region) a, ap (λ (t : TaskRow). t.region) b)

-- they begin behind those of the regions before, and end with the last of the region
pub tasks_run : (plan : Plan) (region : ℕ) → 1 ≤ region → IsNonDecreasingBy (λ (t : TaskRow). t.region) plan.tasks
    → tasks_in plan region ≡ range_with_len (tasks_through plan (region - 1) + 1) (tasks_through plan region - tasks_through plan (region - 1))
tasks_run plan region low rises =
    let f : ℕ → ℕ = λ t. (task_row plan t).region in
    let before = numbered_through plan (region - 1) in
    let end = numbered_through plan region in
    let begin : 1 + below f (region - 1) 1 (length plan.tasks) ≡ tasks_through plan (region - 1) + 1 = omega (arith, before) in
    let many : below f region 1 (length plan.tasks) - below f (region - 1) 1 (length plan.tasks) ≡ tasks_through plan region - tasks_through plan (region - 1) = omega (arith, before, end) in
    in_one_run f region 1 (length plan.tasks) low (region_rises plan rises)
    ∙ ap (λ (b : ℕ). range_with_len b (below f region 1 (length plan.tasks) - below f (region - 1) 1 (length plan.tasks))) begin
    ∙ ap (range_with_len (tasks_through plan (region - 1) + 1)) many

at_most_one : (b : Bool) → ◌≤◌ (cond b 1 0) 1
at_most_one true = omega arith
at_most_one false = omega arith

fewer : (a r : ℕ) → ◌≤◌ (cond (leb a (r - 1)) 1 0) (cond (leb a r) 1 0)
fewer a r =
    ⊎_elim
    (λ (lt : r < a).
    let low : leb a (r - 1) ≡ false = grind (arith, nat_tests) in
    let zero_one : ◌≡◌ {A = ℕ} (cond (leb a (r - 1)) 1 0) 0 = ap (λ (b : Bool). cond b 1 0) low in
    omega (arith, zero_one))
    (λ (le : a ≤ r).
    let high : leb a r ≡ true = grind (arith, nat_tests) in
    let one : ◌≡◌ {A = ℕ} (cond (leb a r) 1 0) 1 = ap (λ (b : Bool). cond b 1 0) high in
    omega (arith, one, at_most_one (leb a (r - 1))))
    (cases_lt r a)

pub count_le : (plan : Plan) (region : ℕ) → tasks_through plan (region - 1) ≤ tasks_through plan region
count_le plan region =
    sum_by-le-sum_by (λ (t : TaskRow). cond (leb t.region (region - 1)) 1 0) (λ (t : TaskRow). cond (leb t.region region) 1 0) plan.tasks (λ t. fewer t.region region)

pub region_numbers : (plan : Plan) (region : ℕ) → All (IsNumberIn plan.tasks) (tasks_in plan region)
region_numbers plan region =
    let p : ℕ → Bool = λ t. eqb (task_row plan t).region region in
    All-filter p (IsNumberIn plan.tasks) (range_with_len 1 (length plan.tasks))
    (λ k d lt.
    let at = get_or-range_with_len 1 (length plan.tasks) k d (omega (arith, length-range_with_len 1 (length plan.tasks))) in
    let few = length-range_with_len 1 (length plan.tasks) in
    (omega (arith, at), omega (arith, at, few)))

-- the space of a task is one of the Plan's
pub place_within : (plan : Plan) → IsWellFormed plan → (t : ℕ) → IsNumberIn plan.tasks t → IsNumberIn plan.spaces (place_of plan t)
place_within plan well t within =
    let proc = (task_names_rows plan well t within).proc in
    let none : ProcRow = record { name = []; space = 0 } in
    let P : ProcRow → Type 0 = λ p. IsNumberIn plan.spaces p.space in
    subst P (sym (numbered-get none plan.procs (task_row plan t).proc proc.0)) (All-get_or P plan.procs ((task_row plan t).proc - 1) none (omega arith) well.names.procs)
