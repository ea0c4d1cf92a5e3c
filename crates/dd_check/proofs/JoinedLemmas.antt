-- The tasks of a region that ends, among all tasks.
use Rattle.std.proofs.Common.{◌≡◌, ℕ, zero, suc, ◌+◌, ◌-◌, ◌<◌, ◌≤◌, List, [], ◌∷◌, length, get_or, map, refl, ap, sym, ◌∙◌, arith}
use Rattle.std.specs.Prelude.{slice_index}
use Rattle.std.specs.List.{All, Contains, sum_by}
use Rattle.std.specs.List.Sorted.{IsStrictlyIncreasing}
use Rattle.std.proofs.lemmas.List.{get_or-map, length-map}
use Rattle.std.proofs.lemmas.List.Sums.{sum_by-cons}
use Rattle.dd_blocks.specs.declared.task_row.TaskRow.{TaskRow}
use Rattle.dd_blocks.specs.Numbered.{IsNumberIn, no_task, numbered}
use Rattle.dd_check.specs.Rows.{with_deps, with_found}
use Rattle.dd_check.proofs.RowsLemmas.{All_from_numbered}

abbrev pub shifted : ℕ → List ℕ → List ℕ
shifted before found = map (λ d. before + d) found

pub length_joined : (before : ℕ) (tasks : List TaskRow) (found : List (List ℕ)) → length found ≡ length tasks → length (with_found before tasks found) ≡ length tasks
length_joined before [] found each = refl
length_joined before (t ∷ ts) [] each = absurd (omega arith)
length_joined before (t ∷ ts) (f ∷ fs) each = ap (λ (n : ℕ). suc n) (length_joined before ts fs (omega arith))

-- the task of a number, with what it depends on
pub joined_at : (before : ℕ) (tasks : List TaskRow) (found : List (List ℕ)) (t : ℕ) → length found ≡ length tasks → IsNumberIn tasks t → numbered no_task (with_found before tasks found) t ≡ with_deps (shifted before (numbered [] found t)) (numbered no_task tasks t)
joined_at before tasks found zero each number = absurd (omega arith)
joined_at before [] found (suc t) each number = absurd (omega arith)
joined_at before (x ∷ xs) [] (suc t) each number = absurd (omega arith)
joined_at before (x ∷ xs) (f ∷ fs) (suc zero) each number = refl
joined_at before (x ∷ xs) (f ∷ fs) (suc (suc t)) each number = joined_at before xs fs (suc t) (omega arith) (omega arith, omega arith)

-- sums over what tasks have beside their dependencies
pub sum_joined : (f : TaskRow → ℕ) → ((deps : List ℕ) (t : TaskRow) → f (with_deps deps t) ≡ f t) → (before : ℕ) (tasks : List TaskRow) (found : List (List ℕ)) → length found ≡ length tasks → sum_by f (with_found before tasks found) ≡ sum_by f tasks
sum_joined f same before [] found each = refl
sum_joined f same before (t ∷ ts) [] each = absurd (omega arith)
sum_joined f same before (t ∷ ts) (x ∷ xs) each =
    omega (arith, sum_by-cons f t ts, sum_by-cons f (with_deps (shifted before x) t) (with_found before ts xs), same (shifted before x) t, sum_joined f same before ts xs (omega arith))

-- what holds of each task whatever its dependencies
pub all_joined : (P : TaskRow → Type 0) → (before : ℕ) (tasks : List TaskRow) (found : List (List ℕ)) → length found ≡ length tasks → ((t : ℕ) → IsNumberIn tasks t → P (with_deps (shifted before (numbered [] found t)) (numbered no_task tasks t))) → All P (with_found before tasks found)
all_joined P before tasks found each holds = All_from_numbered P no_task (with_found before tasks found) (λ t number.
    let there : IsNumberIn tasks t = (number.0, omega (arith, number.1, length_joined before tasks found each)) in
    rw (joined_at before tasks found t each there) (holds t there))

pub rising_shifted : (before : ℕ) (found : List ℕ) → IsStrictlyIncreasing found → IsStrictlyIncreasing (shifted before found)
rising_shifted before found rising k lt =
    let long : length (shifted before found) ≡ length found = length-map found (λ d. before + d) in
    let here : slice_index (shifted before found) k ≡ before + slice_index found k = get_or-map (λ d. before + d) found k 0 0 (omega (arith, long)) in
    let next : slice_index (shifted before found) (k + 1) ≡ before + slice_index found (k + 1) = get_or-map (λ d. before + d) found (k + 1) 0 0 (omega (arith, long)) in
    omega (arith, here, next, rising k (omega (arith, long)))

pub shifted_contains : (before : ℕ) (found : List ℕ) (u : ℕ) → Contains found u → Contains (shifted before found) (before + u)
shifted_contains before found u there =
    let long : length (shifted before found) ≡ length found = length-map found (λ d. before + d) in
    (there.0, omega (arith, long, there.1), get_or-map (λ d. before + d) found there.0 u (before + u) there.1 ∙ ap (λ (x : ℕ). before + x) there.2)

pub contains_shifted : (before : ℕ) (found : List ℕ) (u : ℕ) → Contains (shifted before found) u → (before ≤ u) × Contains found (u - before)
contains_shifted before found u there =
    let long : length (shifted before found) ≡ length found = length-map found (λ d. before + d) in
    let lt : there.0 < length found = omega (arith, long, there.1) in
    let is : before + get_or found there.0 (u - before) ≡ u = sym (get_or-map (λ d. before + d) found there.0 (u - before) u lt) ∙ there.2 in
    (omega (arith, is), (there.0, lt, omega (arith, is)))
